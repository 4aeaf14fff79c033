-- `cases::case_in` meets its contract: the parts lie within the buffers.
use mathlib.Core.Bool.{true}
use mathlib.Core.Path.{◌≡◌, refl, sym, subst}
use Prim.Native.Nat.{ℕ, ◌≤◌, zero-le}
use lib.Dec.{leb}
use lib.ListN.{length}
use borrow.Author.Tests.{leb-true}
use Rattle.cases.proofs.case_in.Goals as goal
use Rattle.cases.proofs.case_in.Tie as tie
use Rattle.cases.proofs.case_in.Lts as lts
use Rattle.cases.proofs.case_in.Reads as reads

header_holds : (n : ℕ) (c : lts.Start tie.the-claims reads.Pre reads.Post) → leb n 24 ≡ true → n ≤ length c.args.header.now
header_holds n c h = subst (λ k. n ≤ k) (sym c.requires.0) (leb-true n 24 h)

fit : {r said most held : ℕ} → r ≡ said → said ≤ most → held ≡ most → r ≤ held
fit {r} {said} {most} {held} e h l = subst (λ k. r ≤ k) (sym l) (subst (λ k. k ≤ most) (sym e) h)

pub u32_at-size-requires : goal.u32_at-size-requires
u32_at-size-requires c = header_holds 4 c.before.before.before.before.before.before refl

pub u32_at-byte_count-requires : goal.u32_at-byte_count-requires
u32_at-byte_count-requires c = header_holds 12 c.before.before.before.before.before.before.before refl

pub u16_at-amount_count-requires : goal.u16_at-amount_count-requires
u16_at-amount_count-requires c = header_holds 14 c.before.before.before.before.before.before.before.before refl

pub u16_at-presence_count-requires : goal.u16_at-presence_count-requires
u16_at-presence_count-requires c = header_holds 16 c.before.before.before.before.before.before.before.before.before refl

pub u16_at-label_count-requires : goal.u16_at-label_count-requires
u16_at-label_count-requires c = header_holds 18 c.before.before.before.before.before.before.before.before.before.before refl

pub slice_bounds-case-count : goal.slice_bounds-case-count
slice_bounds-case-count c = zero-le

pub slice_bounds-case-start : goal.slice_bounds-case-start
slice_bounds-case-start c = zero-le

pub slice_bounds-case-end : goal.slice_bounds-case-end
slice_bounds-case-end c = fit c.u32_at-size.ensures c.requires.1.0 c.requires.2

pub slice_bounds-case-count-2 : goal.slice_bounds-case-count-2
slice_bounds-case-count-2 c = zero-le

pub slice_bounds-case-start-2 : goal.slice_bounds-case-start-2
slice_bounds-case-start-2 c = zero-le

pub slice_bounds-case-end-2 : goal.slice_bounds-case-end-2
slice_bounds-case-end-2 c = fit c.u16_at-amount_count.ensures.0 c.requires.1.2 c.requires.3

pub slice_bounds-case-count-3 : goal.slice_bounds-case-count-3
slice_bounds-case-count-3 c = zero-le

pub slice_bounds-case-start-3 : goal.slice_bounds-case-start-3
slice_bounds-case-start-3 c = zero-le

pub slice_bounds-case-end-3 : goal.slice_bounds-case-end-3
slice_bounds-case-end-3 c = fit c.u16_at-presence_count.ensures.0 c.requires.1.3 c.requires.4

pub slice_bounds-case-count-4 : goal.slice_bounds-case-count-4
slice_bounds-case-count-4 c = zero-le

pub slice_bounds-case-start-4 : goal.slice_bounds-case-start-4
slice_bounds-case-start-4 c = zero-le

pub slice_bounds-case-end-4 : goal.slice_bounds-case-end-4
slice_bounds-case-end-4 c = fit c.u16_at-label_count.ensures.0 c.requires.1.4 c.requires.5

pub slice_bounds-case-count-5 : goal.slice_bounds-case-count-5
slice_bounds-case-count-5 c = zero-le

pub slice_bounds-case-start-5 : goal.slice_bounds-case-start-5
slice_bounds-case-start-5 c = zero-le

pub slice_bounds-case-end-5 : goal.slice_bounds-case-end-5
slice_bounds-case-end-5 c = fit c.u32_at-byte_count.ensures c.requires.1.1 c.requires.6

pub case-requires : goal.case-requires
case-requires c = c.requires.0

pub shape_of-amounts : goal.shape_of-amounts
shape_of-amounts c = c.amounts-1.given.1

pub shape_of-presence : goal.shape_of-presence
shape_of-presence c = c.presence-1.given.1

pub shape_of-labels : goal.shape_of-labels
shape_of-labels c = c.labels-1.given.1

pub shape_of-bytes : goal.shape_of-bytes
shape_of-bytes c = c.bytes-1.given.1

pub returns : goal.returns
returns c = tt
