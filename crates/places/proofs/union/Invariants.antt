-- `places::union` meets its contract: the first i words of the union are stored.
use Rattle.places.specs.Sets.{union}
use Rattle.places.proofs.Loops.{Filled}
use Rattle.places.proofs.union.Given as goal

abbrev pub invariant-loop-i : goal.invariant-loop-i
invariant-loop-i l = Filled 8 (union l.a l.b) l.initial.set l.set l.i
