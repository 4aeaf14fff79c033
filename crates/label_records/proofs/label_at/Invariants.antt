-- `label_records::label_at` meets its contract: the words so far are read.
use Rattle.places.specs.Sets.{empty}
use Rattle.places.proofs.Loops.{Filled}
use Rattle.label_records.proofs.Labels.{read_label}
use Rattle.label_records.proofs.label_at.Given as goal

abbrev pub invariant-loop-word : goal.invariant-loop-word
invariant-loop-word l = Filled 8 (read_label l.file l.at) (empty 8) l.label l.word
