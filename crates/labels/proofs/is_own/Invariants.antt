-- `labels::is_own` meets its contract: the words so far are those of the place alone.
use Rattle.places.specs.Sets.{single}
use Rattle.places.proofs.SameWords.{SameUpto}
use Rattle.labels.specs.Labels.{label_at}
use Rattle.labels.proofs.is_own.Given as goal

abbrev pub invariant-loop-word : goal.invariant-loop-word
invariant-loop-word l = SameUpto (label_at l.labels l.place) (single 8 l.place) l.word
