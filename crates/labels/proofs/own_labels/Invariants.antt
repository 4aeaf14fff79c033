-- `labels::own_labels` meets its contract: at cell n the labels of the first n cells are set, and all others are empty.
use Rattle.std.proofs.Common.{◌≡◌, ◌++◌, ◌-◌, length}
use Rattle.labels.specs.Labels.{own_labels, no_labels}
use Rattle.labels.proofs.own_labels.Given as goal

abbrev pub invariant-loop-place : goal.invariant-loop-place
invariant-loop-place l = (l.labels ≡ own_labels l.place ++ no_labels (512 - l.place)) × (length l.labels ≡ 4096)
