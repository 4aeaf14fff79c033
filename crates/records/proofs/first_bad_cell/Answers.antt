-- `records::first_bad_cell` meets its contract: none of the cells before the loop's is bad, and `least` is one above the last place.
use mathlib.Core.Path.{◌≡◌, sym, ap, ◌∙◌}
use mathlib.Core.Bool.{true, false}
use mathlib.Core.List.{List}
use Prim.Native.Nat.{ℕ, ◌+◌, ◌*◌, ◌≤◌, ◌<◌}
use lib.ListN.{get_or}
use borrow.Author.Tests.{not-true, not-false}
use Rattle.book.specs.Records.{CellRecord, place_of, cells_format}
use Rattle.book.specs.Layout.{decode}
use Rattle.book.specs.Refusals.{no_cell, cell_fits}
use Rattle.book.proofs.Accepted.{laid, cells_inside}
use Rattle.records.proofs.Cells.{least_cell, unfit_cell, fallen_cell, good_cell}
use Rattle.book.proofs.Decoded.{cell_read}
use Rattle.book.proofs.Least.{least_first, least_next}
use Rattle.book.proofs.Scans.{scan_begins, scan_next, scan_found, scan_ends}
use native.Mathlib.Omega.{arith}
use Rattle.records.proofs.first_bad_cell.Goals as goal
use Rattle.records.proofs.first_bad_cell.Tie as tie
use Rattle.records.proofs.first_bad_cell.Lts as lts
use Rattle.records.proofs.first_bad_cell.Reads as reads

pub section_at-cells-requires : goal.section_at-cells-requires
section_at-cells-requires c =
    let t = laid c.before.requires in
    (omega arith, t.long, t.back 0 (omega arith))

pub loop-cell-init : goal.loop-cell-init
loop-cell-init c = (scan_begins c.section_at-cells.ensures (cells_inside (laid c.before.before.requires)), least_first place_of no_cell (decode c.before.before.args.file.now).cells)

abbrev cells : lts.In-loop tie.the-claims reads.Pre reads.Post goal.the-invariant-loop-cell goal.the-decreases-loop-cell → List CellRecord
cells c = (decode c.before.before.before.before.args.file.now).cells

-- the record at the loop's place in the file
abbrev here : lts.In-loop tie.the-claims reads.Pre reads.Post goal.the-invariant-loop-cell goal.the-decreases-loop-cell → CellRecord
here c = cells_format.read c.before.before.before.before.args.file.now (c.before.before.section_at-cells.result.start + c.before.loop-cell.cell * 8)

read : (c : lts.In-loop tie.the-claims reads.Pre reads.Post goal.the-invariant-loop-cell goal.the-decreases-loop-cell) → get_or (cells c) c.before.loop-cell.cell no_cell ≡ here c
read c =
    let s : List ℕ = c.before.before.before.before.args.file.now in
    let i : ℕ = c.before.loop-cell.cell in
    let scan = c.before.loop-cell.invariant.0 in
    cell_read s i no_cell (omega arith) ∙ ap (λ (n : ℕ). cells_format.read s (n + i * 8)) (sym scan.starts)

pub returns-then-not-cell_fits : goal.returns-then-not-cell_fits
returns-then-not-cell_fits c =
    let l = c.before.before.before in
    let unfit : cell_fits (here l) ≡ false = sym c.before.cell_fits.ensures ∙ not-true _ c.if-not-cell_fits.true-raw in
    scan_found l.before.loop-cell.invariant.0 l.loop-cell-test.true (unfit_cell (cells l) _ (read l) unfit)

pub returns-then-place-least : goal.returns-then-place-least
returns-then-place-least c =
    let l = c.before.before.before.before.before in
    let fits : cell_fits (here l) ≡ true = sym c.before.before.before.cell_fits.ensures ∙ not-false _ c.before.before.if-not-cell_fits.false-raw in
    let falls : place_of (here l) < least_cell (cells l) l.before.loop-cell.cell = omega (arith, c.before.place_at-place.ensures.0, l.before.loop-cell.invariant.1) in
    scan_found l.before.loop-cell.invariant.0 l.loop-cell-test.true (fallen_cell (cells l) _ (read l) fits falls)

pub loop-cell-preserved : goal.loop-cell-preserved
loop-cell-preserved c =
    let l = c.before.before.before.before.before in
    let fits : cell_fits (here l) ≡ true = sym c.before.before.before.cell_fits.ensures ∙ not-false _ c.before.before.if-not-cell_fits.false-raw in
    let rises : least_cell (cells l) l.before.loop-cell.cell ≤ place_of (here l) = omega (arith, c.before.place_at-place.ensures.0, l.before.loop-cell.invariant.1) in
    let next : c.before.place_at-place.result + 1 ≡ least_cell (cells l) (l.before.loop-cell.cell + 1) = ap (λ (n : ℕ). n + 1) c.before.place_at-place.ensures.0 ∙ least_next place_of no_cell (cells l) _ (read l) in
    (scan_next l.before.loop-cell.invariant.0 l.loop-cell-test.true (good_cell (cells l) _ (read l) fits rises), next)

pub returns : goal.returns
returns c = scan_ends c.before.loop-cell.invariant.0 c.loop-cell-test.false
