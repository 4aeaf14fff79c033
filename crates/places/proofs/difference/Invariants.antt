-- `places::difference` meets its contract: the first i words of the difference are stored.
use Rattle.places.specs.Sets.{difference}
use Rattle.places.proofs.Loops.{Filled}
use Rattle.places.proofs.difference.Given as goal

abbrev pub invariant-loop-i : goal.invariant-loop-i
invariant-loop-i l = Filled 8 (difference l.a l.b) l.initial.set l.set l.i
