-- `places::single` meets its contract: one bit of one word.
use mathlib.Core.Path.{sym, ap, ◌∙◌}
use Prim.Native.Nat.{◌/◌, ◌%◌}
use native.Mathlib.Omega.{arith}
use lib.ListN.{set}
use lib.Pow.{shl_exact}
use lib.Dec.{lit<}
use Rattle.places.specs.Sets.{empty}
use Rattle.places.proofs.Shapes.{single_word}
use Rattle.places.proofs.single.Goals as goal

pub returns : goal.returns
returns c =
    let p = c.args.place in
    ap (set (empty 8) (p / 64)) (shl_exact 1 (p % 64) 64 (lit< tt) (omega arith) ∙ omega arith) ∙ sym (single_word 8 p (omega arith))
