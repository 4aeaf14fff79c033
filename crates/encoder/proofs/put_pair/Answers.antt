-- `encoder::put_pair` meets its contract: the distance, and behind it the count.
use mathlib.Core.Path.{refl}
use Prim.Native.Nat.{◌+◌}
use Rattle.encoder.proofs.Steps.{both_stored}
use native.Mathlib.Omega.{arith}
use Rattle.encoder.proofs.put_pair.Goals as goal

pub returns : goal.returns
returns c =
    let s = c.before.before.before.before.before.before.before.before.before.before in
    (both_stored s.args.out.now _ _ _ _ s.args.at 2 2 (s.args.at + 2) refl refl refl (omega arith) c.before.before.before.before.before.before.put_u16.ensures c.before.before.put_u16-2.ensures).is
