-- `cases::fits` meets its contract: it answers true only after all five tests.
use mathlib.Core.Bool.{true≢false}
use mathlib.Core.Path.{sym, subst}
use Prim.Native.Nat.{◌≤◌}
use borrow.Author.Tests.{leb-true}
use Rattle.cases.proofs.fits.Goals as goal

pub returns-then-u32_at-gt60016 : goal.returns-then-u32_at-gt60016
returns-then-u32_at-gt60016 c h = absurd (true≢false (sym h))

pub returns-then-u32_at-gt65544 : goal.returns-then-u32_at-gt65544
returns-then-u32_at-gt65544 c h = absurd (true≢false (sym h))

pub returns-then-u16_at-gt520 : goal.returns-then-u16_at-gt520
returns-then-u16_at-gt520 c h = absurd (true≢false (sym h))

pub returns-then-u16_at-gt16 : goal.returns-then-u16_at-gt16
returns-then-u16_at-gt16 c h = absurd (true≢false (sym h))

pub returns : goal.returns
returns c h = (
  subst (λ n. n ≤ 60016) c.u32_at.ensures c.if-u32_at-gt60016.false,
  subst (λ n. n ≤ 65544) c.u32_at-2.ensures c.if-u32_at-gt65544.false,
  subst (λ n. n ≤ 520) c.u16_at.ensures.0 c.if-u16_at-gt520.false,
  subst (λ n. n ≤ 16) c.u16_at-2.ensures.0 c.if-u16_at-gt16.false,
  subst (λ n. n ≤ 4104) c.u16_at-3.ensures.0 (leb-true c.u16_at-3.result 4104 h),
)
