-- `trailer::section_count` meets its contract: the version stands 32 bytes before the file's end.
use mathlib.Core.Path.{◌≡◌, sym, ap, ◌∙◌}
use mathlib.Core.List.{List}
use Prim.Native.Nat.{ℕ, ◌+◌, ◌-◌}
use lib.ListN.{length}
use borrow.Author.Tests.{eq-eqb, ne_eqb}
use native.Mathlib.Omega.{arith}
use Rattle.book.specs.Bytes.{byte}
use Rattle.book.specs.Layout.{trailer, version}
use Rattle.trailer.proofs.section_count.Goals as goal
use Rattle.trailer.proofs.section_count.Tie as tie
use Rattle.trailer.proofs.section_count.Lts as lts
use Rattle.trailer.proofs.section_count.Reads as reads

-- the byte read is the version
version_is : (c : lts.After-byte_at tie.the-claims reads.Pre reads.Post) → c.byte_at.result ≡ version c.before.before.args.file.now
version_is c =
    let s : List ℕ = c.before.before.args.file.now in
    let at : length s - 32 ≡ trailer s + 4 = omega arith in
    c.byte_at.ensures.0 ∙ ap (byte s) at

pub returns-then-byte_at-eq2 : goal.returns-then-byte_at-eq2
returns-then-byte_at-eq2 c =
    let s : List ℕ = c.before.before.before.args.file.now in
    let two : version s ≡ 2 = sym (version_is c.before.before) ∙ c.if-byte_at-eq2.true in
    rw (eq-eqb (version s) 2 two)

pub returns-else-byte_at-eq2 : goal.returns-else-byte_at-eq2
returns-else-byte_at-eq2 c =
    let s : List ℕ = c.before.before.before.args.file.now in
    let other : version s ≡ 2 → ⊥ = λ e. c.if-byte_at-eq2.false (version_is c.before.before ∙ e) in
    rw (ne_eqb (version s) 2 other)
