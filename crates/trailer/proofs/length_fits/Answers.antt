-- `trailer::length_fits` meets its contract: the length field is the file's last four bytes.
use mathlib.Core.Path.{◌≡◌, sym, ap, ◌∙◌}
use mathlib.Core.List.{List}
use Prim.Native.Nat.{ℕ, ◌+◌, ◌-◌, ◌≤◌, ◌<◌}
use lib.Dec.{eqb}
use lib.ListN.{length}
use borrow.Author.Tests.{le-leb, lt-leb}
use Rattle.book.specs.Bytes.{le32}
use Rattle.book.specs.Layout.{trailer}
use Rattle.book.specs.Refusals.{length_fits}
use Rattle.book.proofs.Chains.{pass, fail}
use native.Mathlib.Omega.{arith}
use Rattle.trailer.proofs.length_fits.Goals as goal

pub returns-then-length-lt36 : goal.returns-then-length-lt36
unfolding length_fits
returns-then-length-lt36 c =
    let few : length c.before.before.args.file.now < 36 = c.if-length-lt36.true in
    sym (fail _ (lt-leb _ _ few))

pub returns-then-length-gt60000 : goal.returns-then-length-gt60000
unfolding length_fits
returns-then-length-gt60000 c =
    let s : List ℕ = c.before.before.before.args.file.now in
    let enough : 36 ≤ length s = omega arith in
    let many : 60000 < length s = c.if-length-gt60000.true in
    sym (pass (le-leb _ _ enough) (fail _ (lt-leb _ _ many)))

pub returns : goal.returns
unfolding length_fits
returns c =
    let s : List ℕ = c.before.before.before.before.args.file.now in
    let enough : 36 ≤ length s = omega arith in
    let few : length s ≤ 60000 = omega arith in
    let at : length s - 4 ≡ trailer s + 32 = omega arith in
    let field : c.u32_at.result ≡ le32 s (trailer s + 32) = c.u32_at.ensures ∙ ap (le32 s) at in
    sym (pass (le-leb _ _ enough) (pass (le-leb _ _ few) (ap (λ (n : ℕ). eqb n (length s)) (sym field))))
