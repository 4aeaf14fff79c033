-- `trailer::mark_fits` meets its contract: mark, version and zero bytes, in this order.
use mathlib.Core.Path.{◌≡◌, sym, ap, ◌∙◌}
use mathlib.Core.Bool.{true, false}
use mathlib.Core.List.{List}
use Prim.Native.Nat.{ℕ, ◌+◌, ◌≤◌, ◌<◌}
use lib.Dec.{eqb}
use borrow.Author.Tests.{le-leb, lt-leb, not-true, not-false}
use Rattle.book.specs.Bytes.{le24}
use Rattle.book.specs.Layout.{trailer, version}
use Rattle.book.specs.Refusals.{mark, marked, mark_fits}
use Rattle.book.proofs.Chains.{pass, fail}
use native.Mathlib.Omega.{arith}
use Rattle.trailer.proofs.mark_fits.Goals as goal
use Rattle.trailer.proofs.mark_fits.Tie as tie
use Rattle.trailer.proofs.mark_fits.Lts as lts
use Rattle.trailer.proofs.mark_fits.Reads as reads

pub returns-then-not-same4 : goal.returns-then-not-same4
unfolding mark_fits
returns-then-not-same4 c =
    let s : List ℕ = c.before.before.before.before.args.file.now in
    let other : marked s (trailer s) mark ≡ false = sym c.before.same4.ensures ∙ not-true _ c.if-not-same4.true-raw in
    sym (fail _ other)

-- the mark is there, and the byte read is the version
same : (c : lts.Else1 tie.the-claims reads.Pre reads.Post) → let s : List ℕ = c.before.before.before.before.args.file.now in
    marked s (trailer s) mark ≡ true
same c = sym c.before.same4.ensures ∙ not-false _ c.if-not-same4.false-raw

version_is : (c : lts.After-byte_at tie.the-claims reads.Pre reads.Post) → c.byte_at-version.result ≡ version c.before.before.before.before.before.args.file.now
version_is c = c.byte_at-version.ensures.0

pub returns-then-version-lt1 : goal.returns-then-version-lt1
unfolding mark_fits
returns-then-version-lt1 c =
    let s : List ℕ = c.before.before.before.before.before.before.args.file.now in
    let low : version s < 1 = omega (arith, version_is c.before.before, c.if-version-lt1.true) in
    sym (pass (same c.before.before.before) (fail _ (fail _ (lt-leb _ _ low))))

pub returns-then-version-gt2 : goal.returns-then-version-gt2
unfolding mark_fits
returns-then-version-gt2 c =
    let s : List ℕ = c.before.before.before.before.before.before.before.args.file.now in
    let least : 1 ≤ version s = omega (arith, version_is c.before.before.before, c.before.if-version-lt1.false) in
    let high : 2 < version s = omega (arith, version_is c.before.before.before, c.if-version-gt2.true) in
    sym (pass (same c.before.before.before.before) (fail _ (pass (le-leb _ _ least) (lt-leb _ _ high))))

pub returns : goal.returns
unfolding mark_fits
returns c =
    let s : List ℕ = c.before.before.before.before.before.before.before.before.args.file.now in
    let least : 1 ≤ version s = omega (arith, version_is c.before.before.before.before, c.before.before.if-version-lt1.false) in
    let most : version s ≤ 2 = omega (arith, version_is c.before.before.before.before, c.before.if-version-gt2.false) in
    let zeros : c.u24_at.result ≡ le24 s (trailer s + 5) = c.u24_at.ensures in
    sym
    (pass (same c.before.before.before.before.before)
    (pass (pass (le-leb _ _ least) (le-leb _ _ most)) (ap (λ (n : ℕ). eqb n 0) (sym zeros))))
