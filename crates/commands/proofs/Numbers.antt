-- The test of a signed number against 0, which the code makes on its bits. Assumes nothing.
use mathlib.Core.Path.{◌≡◌, refl}
use mathlib.Core.Bool.{true, false}
use Prim.Native.Nat.{zero, suc, ◌^◌, ◌<◌}
use native.Mathlib.Omega.{arith}
use borrow.Author.Tests.{ne_eqb}
use lib.IntN.{ℤ, pos, negsuc}
use lib.Signed.{mag}
use mir.Syntax.{w32}
use mir.Val.{of_z}
use Rattle.book.specs.Refusals.{is_zero}

pub zero_bits : (z : ℤ) → mag z < 2 ^ 31 → of_z w32 z ≡ 0 → is_zero z ≡ true
unfolding is_zero
zero_bits (pos zero) h e = refl
zero_bits (pos (suc n)) h e = absurd (omega arith)
zero_bits (negsuc n) h e = absurd (omega arith)

pub other_bits : (z : ℤ) → (of_z w32 z ≡ 0 → ⊥) → is_zero z ≡ false
unfolding is_zero
other_bits (pos zero) h = absurd (h refl)
other_bits (pos (suc n)) h = ne_eqb (suc n) 0 (λ e. absurd (omega arith))
other_bits (negsuc n) h = refl
