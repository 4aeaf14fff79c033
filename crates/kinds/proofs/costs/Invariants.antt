-- `kinds::costs` meets its contract: the costs of the kinds passed are stored.
use lib.ListN.{replicate}
use Rattle.places.proofs.Loops.{Filled}
use Rattle.book.specs.Start.{tabulate}
use Rattle.book.specs.Kinds.{cost_of}
use Rattle.kinds.proofs.costs.Given as goal

abbrev pub invariant-loop-kind : goal.invariant-loop-kind
invariant-loop-kind l = Filled 27 (tabulate cost_of 27) (replicate 27 0) l.costs l.kind
