-- Which places of a table lie in a box, by numbers below 8.
use mathlib.Core.Path.{◌≡◌, refl, ap₂, ◌∙◌}
use mathlib.Core.Bool.{Bool, true, false, ◌&&◌}
use Prim.Native.Nat.{ℕ, ◌+◌, ◌*◌, ◌/◌, ◌%◌, ◌≤◌, ◌<◌}
use native.Mathlib.Omega.{arith}
use lib.IntN.{ℤ, pos, negsuc}
use lib.Signed.{le_z}
use borrow.Author.Tests.{le-leb, lt-leb}
use Rattle.monitor.specs.Rules.{in_box}
use Rattle.queries.specs.Found.{box}
use Rattle.queries.specs.Tallies.{first_from, first_above}

pub from_le : (z : ℤ) → first_from z ≤ 8
unfolding first_from
from_le (pos n) = omega arith
from_le (negsuc n) = omega arith

pub above_le : (z : ℤ) → first_above z ≤ 8
unfolding first_above
above_le (pos n) = omega arith
above_le (negsuc n) = omega arith

-- ---- a bound and one of the numbers 0 to 7

from_yes : (z : ℤ) (n : ℕ) → first_from z ≤ n → n < 8 → le_z z (pos n) ≡ true
unfolding first_from
from_yes (pos m) n h l = le-leb m n (omega arith)
from_yes (negsuc m) n h l = refl

from_no : (z : ℤ) (n : ℕ) → n < first_from z → le_z z (pos n) ≡ false
unfolding first_from
from_no (pos m) n h = lt-leb m n (omega arith)
from_no (negsuc m) n h = absurd (omega arith)

above_yes : (z : ℤ) (n : ℕ) → n < first_above z → le_z (pos n) z ≡ true
unfolding first_above
above_yes (pos m) n h = le-leb n m (omega arith)
above_yes (negsuc m) n h = absurd (omega arith)

above_no : (z : ℤ) (n : ℕ) → first_above z ≤ n → n < 8 → le_z (pos n) z ≡ false
unfolding first_above
above_no (pos m) n h l = lt-leb n m (omega arith)
above_no (negsuc m) n h l = refl

-- ---- a place of the table

left_no : (a b : Bool) → a ≡ false → a && b ≡ false
left_no a b e = rw e

right_no : (a b : Bool) → b ≡ false → a && b ≡ false
right_no true b e = e
right_no false b e = refl

module _ (first last low high : ℤ) (table bit : ℕ) (inside : bit < 64) where
  abbrev here : Bool
  here = in_box (box first last low high) (64 * table + bit)

  abbrev in_owners : ℕ → Bool
  in_owners o = le_z first (pos o) && le_z (pos o) last

  abbrev in_lines : ℕ → Bool
  in_lines l = le_z low (pos l) && le_z (pos l) high

  split : here ≡ in_owners (bit / 8) && in_lines (bit % 8)
  unfolding in_box
  split =
      let owner_is : (64 * table + bit) / 8 % 8 ≡ bit / 8 = omega arith in
      let line_is : (64 * table + bit) % 8 ≡ bit % 8 = omega arith in
      ap₂ (λ (o l : ℕ). in_owners o && in_lines l) owner_is line_is

  pub in_yes : first_from first ≤ bit / 8 → bit / 8 < first_above last → first_from low ≤ bit % 8 → bit % 8 < first_above high → here ≡ true
  in_yes a b c d =
      split
      ∙ rw (from_yes first (bit / 8) a (omega arith), above_yes last (bit / 8) b, from_yes low (bit % 8) c (omega arith), above_yes high (bit % 8) d)

  pub owner_below : bit / 8 < first_from first → here ≡ false
  owner_below h = split ∙ left_no (in_owners (bit / 8)) (in_lines (bit % 8)) (left_no _ (le_z (pos (bit / 8)) last) (from_no first (bit / 8) h))

  pub owner_above : first_above last ≤ bit / 8 → here ≡ false
  owner_above h =
      split ∙ left_no (in_owners (bit / 8)) (in_lines (bit % 8)) (right_no (le_z first (pos (bit / 8))) _ (above_no last (bit / 8) h (omega arith)))

  pub line_below : bit % 8 < first_from low → here ≡ false
  line_below h = split ∙ right_no (in_owners (bit / 8)) (in_lines (bit % 8)) (left_no _ (le_z (pos (bit % 8)) high) (from_no low (bit % 8) h))

  pub line_above : first_above high ≤ bit % 8 → here ≡ false
  line_above h =
      split ∙ right_no (in_owners (bit / 8)) (in_lines (bit % 8)) (right_no (le_z low (pos (bit % 8))) _ (above_no high (bit % 8) h (omega arith)))
