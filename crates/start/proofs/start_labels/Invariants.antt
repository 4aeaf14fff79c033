-- `start::start_labels` meets its contract: the labels of the records from `label` on are stored.
use Rattle.start.proofs.Labels.{Labelling}
use Rattle.start.proofs.start_labels.Given as goal

abbrev pub invariant-loop-label : goal.invariant-loop-label
invariant-loop-label l = Labelling l.file l.start l.labels l.label
