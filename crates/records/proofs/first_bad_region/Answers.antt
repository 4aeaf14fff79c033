-- `records::first_bad_region` meets its contract: none of the regions before the loop's is bad.
use mathlib.Core.Path.{◌≡◌, sym, ap, ◌∙◌}
use mathlib.Core.Bool.{not}
use mathlib.Core.List.{List}
use Prim.Native.Nat.{ℕ, ◌+◌, ◌*◌}
use lib.ListN.{get_or}
use Rattle.book.specs.Records.{RegionRecord, regions_format}
use Rattle.book.specs.Layout.{decode}
use Rattle.book.specs.Refusals.{no_region, region_fits, bad_region}
use Rattle.book.proofs.Accepted.{laid, regions_inside}
use Rattle.book.proofs.Decoded.{region_read}
use Rattle.book.proofs.Scans.{scan_begins, scan_next, scan_found, scan_ends}
use native.Mathlib.Omega.{arith}
use Rattle.records.proofs.first_bad_region.Goals as goal
use Rattle.records.proofs.first_bad_region.Tie as tie
use Rattle.records.proofs.first_bad_region.Lts as lts
use Rattle.records.proofs.first_bad_region.Reads as reads

pub section_at-regions-requires : goal.section_at-regions-requires
section_at-regions-requires c =
    let t = laid c.before.requires in
    (omega arith, t.long, t.back 1 (omega arith))

pub loop-region-init : goal.loop-region-init
loop-region-init c = scan_begins c.section_at-regions.ensures (regions_inside (laid c.before.before.requires))

-- the record that was tested is the loop's
tested : (c : lts.After-region_fits tie.the-claims reads.Pre reads.Post goal.the-invariant-loop-region goal.the-decreases-loop-region) → bad_region (decode c.before.before.before.before.before.args.file.now).regions c.before.before.loop-region.region ≡ not c.region_fits.result
unfolding bad_region
tested c =
    let s : List ℕ = c.before.before.before.before.before.args.file.now in
    let i : ℕ = c.before.before.loop-region.region in
    let scan = c.before.before.loop-region.invariant in
    let read : get_or (decode s).regions i no_region ≡ regions_format.read s (c.before.before.before.section_at-regions.result.start + i * 8) = region_read s i no_region (omega arith) ∙ ap (λ (n : ℕ). regions_format.read s (n + i * 8)) (sym scan.starts) in
    ap (λ (x : RegionRecord). not (region_fits x)) read ∙ ap not (sym c.region_fits.ensures)

pub returns-then-not-region_fits : goal.returns-then-not-region_fits
returns-then-not-region_fits c = scan_found c.before.before.before.loop-region.invariant c.before.before.loop-region-test.true (tested c.before.before ∙ c.if-not-region_fits.true-raw)

pub loop-region-preserved : goal.loop-region-preserved
loop-region-preserved c = scan_next c.before.before.before.loop-region.invariant c.before.before.loop-region-test.true (tested c.before.before ∙ c.if-not-region_fits.false-raw)

pub returns : goal.returns
returns c = scan_ends c.before.loop-region.invariant c.loop-region-test.false
