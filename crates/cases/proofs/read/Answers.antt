-- `cases::read` meets its contract: it reads no file that does not fit.
use mathlib.Core.Bool.{true≢false}
use mathlib.Core.Path.{sym, subst}
use Prim.Native.Nat.{◌≤◌}
use Rattle.cases.specs.Header.{Lendable}
use Rattle.cases.proofs.read.Goals as goal

pub returns-then-not-read : goal.returns-then-not-read
returns-then-not-read c h = absurd (true≢false (sym h))

pub returns-then-not-fits : goal.returns-then-not-fits
returns-then-not-fits c h = absurd (true≢false (sym h))

pub slice_bounds-read-end : goal.slice_bounds-read-end
slice_bounds-read-end c =
    let lendable : Lendable c.read.new.bytes = c.fits.ensures c.if-not-fits.false in
    subst (λ n. c.u32_at-size.result ≤ n) (sym c.requires.1) (subst (λ n. n ≤ 60016) (sym c.u32_at-size.ensures) lendable.0)

pub returns : goal.returns
returns c h = c.fits.ensures c.if-not-fits.false
