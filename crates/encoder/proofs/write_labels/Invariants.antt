-- `encoder::write_labels` meets its contract: of the cells below `cell` the records are written.
use Rattle.book.specs.Encode.{label_record}
use Rattle.encoder.proofs.Codec.{labels_codec}
use Rattle.encoder.proofs.Writes.{other_label, Writing}
use Rattle.encoder.proofs.write_labels.Given as goal

abbrev pub invariant-loop-cell : goal.invariant-loop-cell
invariant-loop-cell l = Writing labels_codec (other_label l.labels) (label_record l.labels) l.initial.out l.at l.out l.end l.cell
