-- `label_records::first_bad_label` meets its contract: none of the records before the loop's is bad, and `least` is one above the last place.
use mathlib.Core.Path.{◌≡◌}
use Rattle.book.specs.Layout.{label_section, decode}
use Rattle.book.specs.Refusals.{bad_label}
use Rattle.book.proofs.Scans.{ScanOf}
use Rattle.label_records.proofs.Labels.{least_label}
use Rattle.label_records.proofs.first_bad_label.Given as goal

abbrev pub invariant-loop-label : goal.invariant-loop-label
invariant-loop-label l =
    ScanOf l.file (label_section l.file) 66 (bad_label (decode l.file).labels) l.start l.count l.label × (l.least ≡ least_label (decode l.file).labels l.label)
