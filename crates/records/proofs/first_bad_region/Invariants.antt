-- `records::first_bad_region` meets its contract: none of the regions before the loop's is bad.
use Rattle.book.specs.Layout.{decode}
use Rattle.book.specs.Refusals.{bad_region}
use Rattle.book.proofs.Scans.{Scan}
use Rattle.records.proofs.first_bad_region.Given as goal

abbrev pub invariant-loop-region : goal.invariant-loop-region
invariant-loop-region l = Scan l.file 1 8 (bad_region (decode l.file).regions) l.start l.count l.region
