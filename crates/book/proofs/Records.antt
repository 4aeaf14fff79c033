-- The records of a section: how many they are, and where each stands. Assumes nothing.
use mathlib.Core.Path.{◌≡◌, refl, ap, ◌∙◌}
use mathlib.Core.List.{List}
use Prim.Native.Nat.{ℕ, zero, suc, ◌+◌, ◌*◌, ◌<◌}
use native.Mathlib.Omega.{arith}
use lib.ListN.{length, get_or}
use Rattle.book.specs.Records.{Format, records}

module _ {A : Type 0} (f : Format A) where
  pub length_records : (n at : ℕ) (s : List ℕ) → length (records f n at s) ≡ n
  unfolding records
  length_records zero at s = refl
  length_records (suc n) at s = ap suc (length_records n (at + f.size) s)

  -- record i is read from byte at + i · size
  pub record_at : (n at : ℕ) (s : List ℕ) (i : ℕ) (d : A) → i < n → get_or (records f n at s) i d ≡ f.read s (at + i * f.size)
  unfolding records
  record_at zero at s i d h = absurd (below_zero h)
    where
      below_zero : i < 0 → ⊥
      below_zero h = omega arith
  record_at (suc n) at s zero d h =
      let e : at + 0 * f.size ≡ at = omega arith in
      rw e
  record_at (suc n) at s (suc i) d h =
      let e : at + f.size + i * f.size ≡ at + suc i * f.size = omega arith in
      record_at n (at + f.size) s i d (omega arith) ∙ ap (f.read s) e
