-- `book::label_section` meets its contract: the version decides whether the seventh pair is read.
use mathlib.Core.Path.{◌≡◌, sym, ap, ◌∙◌}
use mathlib.Core.Bool.{true}
use mathlib.Core.List.{List}
use Prim.Native.Nat.{ℕ, ◌+◌, ◌-◌, ◌≤◌}
use lib.ListN.{length}
use borrow.Author.Tests.{eq-eqb, ne_eqb}
use native.Mathlib.Omega.{arith}
use Rattle.book.specs.Bytes.{byte, le16}
use Rattle.book.specs.Layout.{trailer, version, remembers, distance, count}
use Rattle.book.proofs.Accepted.{laid, seventh_back}
use Rattle.book.proofs.label_section.Goals as goal
use Rattle.book.proofs.label_section.Tie as tie
use Rattle.book.proofs.label_section.Lts as lts
use Rattle.book.proofs.label_section.Reads as reads

pub overflow_sub-end : goal.overflow_sub-end
overflow_sub-end c = omega (arith, (laid c.before.requires).long)

pub byte_at-requires : goal.byte_at-requires
byte_at-requires c = omega (arith, (laid c.before.requires).long)

-- the byte read is the version
version_is : (c : lts.After-byte_at tie.the-claims reads.Pre reads.Post) → c.byte_at.result ≡ version c.before.before.args.file.now
version_is c =
    let s : List ℕ = c.before.before.args.file.now in
    let at : length s - 32 ≡ trailer s + 4 = omega (arith, (laid c.before.before.requires).long) in
    c.byte_at.ensures.0 ∙ ap (byte s) at

pub overflow_sub-result : goal.overflow_sub-result
overflow_sub-result c = omega (arith, (laid c.before.before.before.requires).long)

pub returns-then-byte_at-ne2 : goal.returns-then-byte_at-ne2
returns-then-byte_at-ne2 c =
    let s : List ℕ = c.before.before.before.args.file.now in
    let other : version s ≡ 2 → ⊥ = λ e. c.if-byte_at-ne2.true (version_is c.before.before ∙ e) in
    rw (ne_eqb (version s) 2 other)

-- version 2
second : (c : lts.Else1 tie.the-claims reads.Pre reads.Post) → remembers c.before.before.before.args.file.now ≡ true
second c = eq-eqb _ 2 (sym (version_is c.before) ∙ c.if-byte_at-ne2.false)

room : (c : lts.Else1 tie.the-claims reads.Pre reads.Post) → let s : List ℕ = c.before.before.before.args.file.now in
    (40 ≤ length s) × (distance s 6 ≤ length s)
room c = seventh_back c.before.before.before.requires (second c)

pub overflow_sub-end-2 : goal.overflow_sub-end-2
overflow_sub-end-2 c = (room c.before).0

pub u16_at-back-requires : goal.u16_at-back-requires
u16_at-back-requires c = omega (arith, (room c.before).0)

pub overflow_sub-end-3 : goal.overflow_sub-end-3
overflow_sub-end-3 c = omega (arith, (room c.before.before).0)

pub u16_at-records-requires : goal.u16_at-records-requires
u16_at-records-requires c = omega (arith, (room c.before.before).0)

pub overflow_sub-result-2 : goal.overflow_sub-result-2
overflow_sub-result-2 c = omega (arith, c.before.u16_at-back.ensures.0, (room c.before.before.before).1)

pub returns : goal.returns
returns c =
    let s : List ℕ = c.before.before.before.before.before.args.file.now in
    let at : length s - 38 ≡ length s - 40 + 2 = omega (arith, (room c.before.before.before).0) in
    let back : c.before.u16_at-back.result ≡ distance s 6 = c.before.u16_at-back.ensures.0 in
    let records : c.u16_at-records.result ≡ count s 6 = c.u16_at-records.ensures.0 ∙ ap (le16 s) at in
    rw (second c.before.before.before, back, records)
