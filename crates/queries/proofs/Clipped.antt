-- A bound as it is held to the numbers 0 to 8.
use mathlib.Core.Path.{◌≡◌, refl}
use Prim.Native.Nat.{zero, suc, ◌+◌, ◌<◌}
use native.Mathlib.Decide.{dec_lt}
use native.Mathlib.Omega.{arith}
use lib.IntN.{ℤ, pos, negsuc, nat_abs, ◌+ℤ◌}
use borrow.Author.Tests.{lt-ltb, le-ltb}
use Rattle.std.specs.Prelude.{min}
use Rattle.std.specs.Int.{int_min, int_max}
use Rattle.queries.specs.Tallies.{first_from, first_above}

pub from_clamped : (z : ℤ) → nat_abs (int_max (pos 0) (int_min z (pos 8))) ≡ first_from z
unfolding first_from
from_clamped (pos n) = go (dec_lt 8 n)
  where
    go : Dec (8 < n) → nat_abs (int_max (pos 0) (int_min (pos n) (pos 8))) ≡ min n 8
    go (yes l) = rw (lt-ltb 8 n l) (omega arith)
    go (no g) = rw (le-ltb 8 n (omega arith), le-ltb n 0 (omega arith)) (omega arith)
from_clamped (negsuc n) = refl

pub above_clamped : (z : ℤ) → nat_abs (int_max (negsuc 0) (int_min z (pos 7)) +ℤ pos 1) ≡ first_above z
unfolding first_above
above_clamped (pos n) = go (dec_lt 7 n)
  where
    go : Dec (7 < n) → nat_abs (int_max (negsuc 0) (int_min (pos n) (pos 7)) +ℤ pos 1) ≡ min (n + 1) 8
    go (yes l) = rw (lt-ltb 7 n l) (omega arith)
    go (no g) = rw (le-ltb 7 n (omega arith)) (omega arith)
above_clamped (negsuc zero) = refl
above_clamped (negsuc (suc n)) = rw (lt-ltb 0 (suc n) (omega arith))
