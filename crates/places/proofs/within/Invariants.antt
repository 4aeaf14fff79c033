-- `places::within` meets its contract: no word so far has a missing place.
use Rattle.places.specs.Sets.{misses}
use Rattle.places.proofs.Counting.{NonePicked}
use Rattle.places.proofs.within.Given as goal

abbrev pub invariant-loop-word : goal.invariant-loop-word
invariant-loop-word l = NonePicked (misses l.a l.b) l.word
