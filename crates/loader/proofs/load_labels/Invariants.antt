-- `loader::load_labels` meets its contract: the labels of the records from `label` on are set.
use Rattle.loader.proofs.Labels.{Labelling}
use Rattle.loader.proofs.load_labels.Given as goal

abbrev pub invariant-loop-label : goal.invariant-loop-label
invariant-loop-label l = Labelling l.file l.start l.labels l.label
