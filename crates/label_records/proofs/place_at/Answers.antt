-- `label_records::place_at` meets its contract.
use Rattle.book.specs.Records.{labels_format}
use Rattle.label_records.proofs.place_at.Goals as goal

pub returns : goal.returns
unfolding labels_format
returns c = c.u16_at.ensures.0
