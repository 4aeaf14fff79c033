-- `label_records::own_alone` meets its contract: the words so far are those of the place alone.
use Prim.Native.Nat.{◌≤◌}
use Rattle.places.specs.Sets.{single}
use Rattle.places.proofs.SameWords.{SameUpto}
use Rattle.label_records.proofs.Labels.{read_label}
use Rattle.label_records.proofs.own_alone.Given as goal

abbrev pub invariant-loop-same : goal.invariant-loop-same
invariant-loop-same l = (l.same ≤ 8) × SameUpto (read_label l.file l.at) (single 8 l.place) l.same
