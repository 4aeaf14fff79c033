-- Signed numbers: what 64 bits hold of sums and differences of 32, and the tests of the code as those of the rules. Assumes nothing.
use mathlib.Core.Path.{◌≡◌, refl, sym, ap, ◌∙◌}
use mathlib.Core.Bool.{Bool, true, false, ◌&&◌, false≢true}
use Prim.Native.Nat.{zero, suc, ◌+◌, ◌^◌, ◌≤◌, ◌<◌}
use native.Mathlib.Nat.{le_refl, le_antisymm}
use native.Mathlib.Decide.{ℕ_discrete}
use native.Mathlib.Omega.{arith}
use lib.Dec.{eqb, leb}
use lib.IntN.{ℤ, pos, negsuc, ◌+ℤ◌, ◌-ℤ◌, neg_ℤ}
use lib.Signed.{mag, le_z}
use mir.Syntax.{Width, w32, w64}
use mir.Val.{SFits, hbits, to_z, of_z, bool_byte}
use mir.Facts.{to_z-of_z, sfits_widen}
use borrow.Author.Tests.{eq-eqb, ne_eqb, le-leb, leb-true}
use Rattle.book.proofs.Chains.{both}
use Rattle.monitor.specs.Rules.{from_bool, equals}
use Rattle.queries.proofs.Tallies.{mag_sum}

-- ---- sums and differences

sum_mag : (a b : ℤ) → mag a < 2 ^ 32 → mag b < 2 ^ 32 → mag (a +ℤ b) < 2 ^ 34
sum_mag a b p q =
    let h : mag (a +ℤ b) ≤ mag a + mag b + 1 = mag_sum a b in
    omega arith

neg_mag : (a : ℤ) → mag a < 2 ^ 31 → mag (neg_ℤ a) < 2 ^ 32
neg_mag (pos zero) p = omega arith
neg_mag (pos (suc a)) p = omega arith
neg_mag (negsuc a) p = omega arith

small_fits : {z : ℤ} → mag z < 2 ^ 34 → SFits w64 z
small_fits p = record { sfits = omega arith }

pub wide : {a : ℤ} → SFits w32 a → SFits w64 a
wide p = sfits_widen tt p

pub sum_fits : {a b : ℤ} → SFits w32 a → SFits w32 b → SFits w64 (a +ℤ b)
sum_fits {a} {b} p q = small_fits (sum_mag a b (omega (arith, p.sfits)) (omega (arith, q.sfits)))

pub difference_fits : {a b : ℤ} → SFits w32 a → SFits w32 b → SFits w64 (a -ℤ b)
difference_fits {a} {b} p q = small_fits (sum_mag a (neg_ℤ b) (omega (arith, p.sfits)) (neg_mag b q.sfits))

-- ---- equality

le_self : (z : ℤ) → le_z z z ≡ true
le_self (pos n) = le-leb n n (le_refl n)
le_self (negsuc n) = le-leb n n (le_refl n)

le_both : (a b : ℤ) → (le_z a b && le_z b a) ≡ true → a ≡ b
le_both (pos a) (pos b) e =
    let p = both (leb a b) _ e in
    ap pos (le_antisymm (leb-true a b p.0) (leb-true b a p.1))
le_both (pos a) (negsuc b) e = absurd (false≢true e)
le_both (negsuc a) (pos b) e = absurd (false≢true e)
le_both (negsuc a) (negsuc b) e =
    let p = both (leb b a) _ e in
    ap negsuc (le_antisymm (leb-true a b p.1) (leb-true b a p.0))

-- a test as a number
pub told : (b : Bool) → pos (bool_byte b) ≡ from_bool b
told true = refl
told false = refl

-- numbers are equal where their bits are
pub equals_is : {a b : ℤ} → SFits w64 a → SFits w64 b → pos (bool_byte (eqb (of_z w64 a) (of_z w64 b))) ≡ equals a b
unfolding equals
equals_is {a} {b} p q = go (ℕ_discrete (of_z w64 a) (of_z w64 b))
  where
    apart : (y : Bool) → (le_z a b && le_z b a) ≡ y → (of_z w64 a ≡ of_z w64 b → ⊥) → pos 0 ≡ from_bool y
    apart true e d = absurd (d (ap (of_z w64) (le_both a b e)))
    apart false e d = refl

    go : Dec (of_z w64 a ≡ of_z w64 b) → pos (bool_byte (eqb (of_z w64 a) (of_z w64 b))) ≡ from_bool (le_z a b && le_z b a)
    go (yes e) =
        let same : a ≡ b = sym (to_z-of_z p) ∙ ap (to_z w64) e ∙ to_z-of_z q in
        rw (eq-eqb (of_z w64 a) (of_z w64 b) e, same, le_self b)
    go (no d) = rw (ne_eqb (of_z w64 a) (of_z w64 b) d) (apart (le_z a b && le_z b a) refl d)

-- ---- a number kept in a local

pub kept : (w : Width) (z : ℤ) → mag z < 2 ^ hbits w → to_z w (of_z w z) ≡ z
kept w z h = to_z-of_z {w = w} {z = z} (record { sfits = h })
