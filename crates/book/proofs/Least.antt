-- Records whose places rise: the least place that the next may have. Assumes nothing.
use mathlib.Core.Path.{◌≡◌, refl, sym}
use mathlib.Core.List.{List}
use Prim.Native.Nat.{ℕ, zero, suc, ◌+◌}
use native.Mathlib.Numerals.{add-one}
use lib.Dec.{leb, leb-zero}
use lib.ListN.{get_or}
use Rattle.book.specs.Refusals.{rises}

module _ {A : Type 0} (place : A → ℕ) (none : A) (rs : List A) where
  -- the least place that record i may have: one above that of the record before
  unfoldable pub least_at : ℕ → ℕ
  least_at zero = 0
  least_at (suc i) = suc (place (get_or rs i none))

  pub least_first : 0 ≡ least_at 0
  unfolding least_at
  least_first = refl

  pub least_next : (i : ℕ) {x : A} → get_or rs i none ≡ x → place x + 1 ≡ least_at (i + 1)
  unfolding least_at
  least_next i e = rw (add-one i, e, add-one)

  pub rises_least : (i : ℕ) → rises place none rs i ≡ leb (least_at i) (place (get_or rs i none))
  unfolding rises least_at
  rises_least zero = sym (leb-zero (place (get_or rs 0 none)))
  rises_least (suc i) = refl
