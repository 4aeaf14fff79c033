-- `places::union` meets its contract: the first i words of the union are stored.
use mathlib.Core.Path.{refl, sym}
use native.Mathlib.Omega.{arith}
use Rattle.places.proofs.Sets.{length_union, union_word}
use Rattle.places.proofs.Loops.{filled_turn, filled_end}
use Rattle.places.proofs.union.Goals as goal

pub loop-i-preserved : goal.loop-i-preserved
loop-i-preserved c = filled_turn (length_union _ _ (omega arith) (omega arith)) refl (omega arith) (sym (union_word c.args.a c.args.b c.loop-i.i)) c.loop-i.invariant

pub returns : goal.returns
returns c = filled_end (length_union _ _ (omega arith) (omega arith)) refl (omega arith) c.loop-i.invariant
