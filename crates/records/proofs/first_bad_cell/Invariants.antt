-- `records::first_bad_cell` meets its contract: none of the cells before the loop's is bad, and `least` is one above the last place.
use mathlib.Core.Path.{◌≡◌}
use Rattle.book.specs.Layout.{decode}
use Rattle.book.specs.Refusals.{bad_cell}
use Rattle.records.proofs.Cells.{least_cell}
use Rattle.book.proofs.Scans.{Scan}
use Rattle.records.proofs.first_bad_cell.Given as goal

abbrev pub invariant-loop-cell : goal.invariant-loop-cell
invariant-loop-cell l = Scan l.file 0 8 (bad_cell (decode l.file).cells) l.start l.count l.cell × (l.least ≡ least_cell (decode l.file).cells l.cell)
