-- `records::first_bad_right` meets its contract: none of the rights before the loop's is bad.
use mathlib.Core.Path.{◌≡◌, sym, ap, ◌∙◌}
use mathlib.Core.Bool.{not}
use mathlib.Core.List.{List}
use Prim.Native.Nat.{ℕ, ◌+◌, ◌*◌}
use lib.ListN.{get_or}
use Rattle.book.specs.Records.{RightRecord, rights_format}
use Rattle.book.specs.Layout.{count, decode}
use Rattle.book.specs.Refusals.{no_right, right_fits, bad_right}
use Rattle.book.specs.declared.Section.{Section}
use Rattle.book.proofs.Accepted.{laid, rights_inside}
use Rattle.book.proofs.Decoded.{right_read}
use Rattle.book.proofs.Scans.{scan_begins, scan_next, scan_found, scan_ends}
use native.Mathlib.Omega.{arith}
use Rattle.records.proofs.first_bad_right.Goals as goal
use Rattle.records.proofs.first_bad_right.Tie as tie
use Rattle.records.proofs.first_bad_right.Lts as lts
use Rattle.records.proofs.first_bad_right.Reads as reads

pub section_at-regions-requires : goal.section_at-regions-requires
section_at-regions-requires c =
    let t = laid c.before.requires in
    (omega arith, t.long, t.back 1 (omega arith))

pub section_at-rights-requires : goal.section_at-rights-requires
section_at-rights-requires c =
    let t = laid c.before.before.requires in
    (omega arith, t.long, t.back 2 (omega arith))

pub loop-right-init : goal.loop-right-init
loop-right-init c = scan_begins c.section_at-rights.ensures (rights_inside (laid c.before.before.before.requires))

pub right_fits-requires : goal.right_fits-requires
right_fits-requires c =
    let regions : c.before.before.before.section_at-regions.result.count ≡ count c.before.before.before.before.before.args.file.now 1 = ap (λ (x : Section). x.count) c.before.before.before.section_at-regions.ensures in
    (omega arith, regions)

-- the record that was tested is the loop's
tested : (c : lts.After-right_fits tie.the-claims reads.Pre reads.Post goal.the-invariant-loop-right goal.the-decreases-loop-right) → bad_right (decode c.before.before.before.before.before.before.args.file.now) c.before.before.loop-right.right ≡ not c.right_fits.result
unfolding bad_right
tested c =
    let s : List ℕ = c.before.before.before.before.before.before.args.file.now in
    let i : ℕ = c.before.before.loop-right.right in
    let scan = c.before.before.loop-right.invariant in
    let read : get_or (decode s).rights i no_right ≡ rights_format.read s (c.before.before.before.section_at-rights.result.start + i * 4) = right_read s i no_right (omega arith) ∙ ap (λ (n : ℕ). rights_format.read s (n + i * 4)) (sym scan.starts) in
    ap (λ (x : RightRecord). not (right_fits (decode s) x)) read ∙ ap not (sym c.right_fits.ensures)

pub returns-then-not-right_fits : goal.returns-then-not-right_fits
returns-then-not-right_fits c = scan_found c.before.before.before.loop-right.invariant c.before.before.loop-right-test.true (tested c.before.before ∙ c.if-not-right_fits.true-raw)

pub loop-right-preserved : goal.loop-right-preserved
loop-right-preserved c = scan_next c.before.before.before.loop-right.invariant c.before.before.loop-right-test.true (tested c.before.before ∙ c.if-not-right_fits.false-raw)

pub returns : goal.returns
returns c = scan_ends c.before.loop-right.invariant c.loop-right-test.false
