-- `labels::set_label` meets its contract: the label's words before the offset are stored in their place.
use Rattle.std.proofs.Common.{◌≡◌, ◌*◌, length}
use lib.Seq.{paste}
use Rattle.labels.proofs.set_label.Given as goal

abbrev pub invariant-loop-offset : goal.invariant-loop-offset
invariant-loop-offset l = (l.labels ≡ paste l.initial.labels (8 * l.place) l.label l.offset) × (length l.labels ≡ length l.initial.labels)
