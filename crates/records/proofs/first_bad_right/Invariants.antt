-- `records::first_bad_right` meets its contract: none of the rights before the loop's is bad.
use Rattle.book.specs.Layout.{decode}
use Rattle.book.specs.Refusals.{bad_right}
use Rattle.book.proofs.Scans.{Scan}
use Rattle.records.proofs.first_bad_right.Given as goal

abbrev pub invariant-loop-right : goal.invariant-loop-right
invariant-loop-right l = Scan l.file 2 4 (bad_right (decode l.file)) l.start l.count l.right
