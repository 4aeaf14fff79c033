-- `encoder::put_u64` meets its contract: the lower half, and behind it the higher.
use Rattle.encoder.proofs.Steps.{word_stored}
use Rattle.encoder.proofs.put_u64.Goals as goal

pub returns : goal.returns
returns c =
    let s = c.before.before.before.before.before.before.before.before.before.before in
    word_stored s.args.out.now _ _ s.args.at s.args.bits s.requires c.before.before.before.before.before.before.put_u32.ensures c.before.before.put_u32-2.ensures
