-- The lowest bit of a number and the bits above it, which are those of its half; and the places of a set's word.
use mathlib.Core.Path.{◌≡◌, sym, ap, ◌∙◌}
use mathlib.Core.List.{List}
use Prim.Native.Nat.{ℕ, suc, ◌+◌, ◌*◌, ◌/◌, ◌%◌, ◌<◌}
use native.Mathlib.Numerals.{one-add}
use native.Mathlib.Omega.{arith}
use lib.Dec.{eqb}
use lib.ListN.{get_or}
use lib.Pow.{shr-shr}
use Rattle.places.specs.Sets.{bit, has}

pub bit_zeroth : (n : ℕ) → bit 0 n ≡ n % 2
bit_zeroth n = ap (λ (x : ℕ). x % 2) (omega arith)

pub bit_next : (k n : ℕ) → bit (suc k) n ≡ bit k (n / 2)
bit_next k n = sym (ap (λ (x : ℕ). x % 2) (shr-shr n 1 k) ∙ ap (λ (m : ℕ). bit m n) (one-add k))

-- place k of word w
pub has_at : (s : List ℕ) (w k : ℕ) → k < 64 → has s (64 * w + k) ≡ eqb (bit k (get_or s w 0)) 1
unfolding has
has_at s w k h =
    let q : (64 * w + k) / 64 ≡ w = omega arith in
    let r : (64 * w + k) % 64 ≡ k = omega arith in
    rw (q, r)
