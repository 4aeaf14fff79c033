-- `records::region_fits` meets its contract: the table, the two ranges and the zero bytes, in the definition's order.
use mathlib.Core.Path.{◌≡◌, sym, ap, ◌∙◌}
use mathlib.Core.Bool.{Bool, true, false, ◌&&◌, and_assoc}
use mathlib.Core.List.{List}
use Prim.Native.Nat.{ℕ, ◌+◌, ◌≤◌, ◌<◌}
use lib.Dec.{eqb, leb}
use borrow.Author.Tests.{le-leb, lt-leb, not-true, not-false}
use Rattle.regions.specs.declared.Range.{Range}
use Rattle.regions.specs.declared.Region.{Region}
use Rattle.book.specs.Bytes.{le24}
use Rattle.book.specs.Records.{regions_format}
use Rattle.book.specs.Refusals.{region_fits}
use Rattle.book.proofs.Chains.{pass, fail}
use Rattle.records.proofs.region_fits.Goals as goal
use Rattle.records.proofs.region_fits.Tie as tie
use Rattle.records.proofs.region_fits.Lts as lts
use Rattle.records.proofs.region_fits.Reads as reads

abbrev range_test : Range → Bool
range_test x = leb x.first x.last && leb x.last 7

-- the definition's tests, of the region that was read
tests : (c : lts.After-region_at tie.the-claims reads.Pre reads.Post)
    → let s : List ℕ = c.before.before.args.file.now in
    let at : ℕ = c.before.before.args.at in
    let x : Region = c.region_at-region.result in
    region_fits (regions_format.read s at) ≡ leb x.table 7 && (range_test x.owners && (range_test x.lines && eqb (le24 s (at + 5)) 0))
unfolding region_fits regions_format
tests c = rw c.region_at-region.ensures (simp and_assoc)

pub returns-then-table-gt7 : goal.returns-then-table-gt7
returns-then-table-gt7 c =
    let high : 7 < c.before.before.before.region_at-region.result.table = c.if-table-gt7.true in
    sym (tests c.before.before.before.before ∙ fail _ (lt-leb _ _ high))

pub returns-then-not-range_fits : goal.returns-then-not-range_fits
returns-then-not-range_fits c =
    let table : c.before.before.before.before.before.region_at-region.result.table ≤ 7 = c.before.before.if-table-gt7.false in
    let owners : range_test c.before.before.before.before.before.region_at-region.result.owners ≡ false = sym c.before.range_fits.ensures ∙ not-true _ c.if-not-range_fits.true-raw in
    sym (tests c.before.before.before.before.before.before ∙ pass (le-leb _ _ table) (fail _ owners))

pub returns-then-not-range_fits-2 : goal.returns-then-not-range_fits-2
returns-then-not-range_fits-2 c =
    let table : c.before.before.before.before.before.before.before.region_at-region.result.table ≤ 7 = c.before.before.before.before.if-table-gt7.false in
    let owners : range_test c.before.before.before.before.before.before.before.region_at-region.result.owners ≡ true = sym c.before.before.before.range_fits.ensures ∙ not-false _ c.before.before.if-not-range_fits.false-raw in
    let lines : range_test c.before.before.before.before.before.before.before.region_at-region.result.lines ≡ false = sym c.before.range_fits-2.ensures ∙ not-true _ c.if-not-range_fits-2.true-raw in
    sym (tests c.before.before.before.before.before.before.before.before ∙ pass (le-leb _ _ table) (pass owners (fail _ lines)))

pub returns : goal.returns
returns c =
    let table : c.before.before.before.before.before.before.before.before.region_at-region.result.table ≤ 7 = c.before.before.before.before.before.if-table-gt7.false in
    let owners : range_test c.before.before.before.before.before.before.before.before.region_at-region.result.owners ≡ true = sym c.before.before.before.before.range_fits.ensures ∙ not-false _ c.before.before.before.if-not-range_fits.false-raw in
    let lines : range_test c.before.before.before.before.before.before.before.before.region_at-region.result.lines ≡ true = sym c.before.before.range_fits-2.ensures ∙ not-false _ c.before.if-not-range_fits-2.false-raw in
    let zeros : c.u24_at.result ≡ le24 c.before.before.before.before.before.before.before.before.before.before.args.file.now (c.before.before.before.before.before.before.before.before.before.before.args.at + 5) = c.u24_at.ensures in
    sym (tests c.before.before.before.before.before.before.before.before.before ∙ pass (le-leb _ _ table) (pass owners (pass lines (ap (λ (n : ℕ). eqb n 0) (sym zeros)))))
