-- `encoder::write_tail` meets its contract: each step stores its part behind the one before.
use Rattle.encoder.proofs.Steps.{tail_steps}
use Rattle.encoder.proofs.write_tail.Goals as goal

pub returns : goal.returns
returns c =
    let s = c.before.before.before.before.before.before.before.before.before.before.before.before.before.before.before.before.before.before.before.before in
    let p = c.before.before.before.before.before.before.put_pairs-whole in
    tail_steps s.args.file.now s.args.at s.args.cells s.args.labels p.result s.args.out.now _ _ _ _ s.requires.1
    c.before.before.before.before.before.before.before.before.before.before.before.before.before.before.before.put_pair.ensures
    c.before.before.before.before.before.before.before.before.before.before.copy_part.ensures
    p.ensures.0
    p.ensures.1
    c.before.before.put_u32.ensures
