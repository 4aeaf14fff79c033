-- Keys: the tests of a key, and its place. Assumes nothing.
use mathlib.Core.Path.{◌≡◌, refl, sym, ◌∙◌}
use mathlib.Core.Bool.{Bool, true, ◌&&◌, false≢true}
use Prim.Native.Nat.{ℕ, ◌<◌}
use native.Mathlib.Omega.{arith}
use borrow.Author.Tests.{leb-true}
use lib.Dec.{T, leb}
use lib.IntN.{ℤ, pos, negsuc, nat_abs}
use lib.Signed.{le_z, non_neg}
use Rattle.book.proofs.Chains.{both}
use Rattle.monitor.specs.Rules.{nat, key_place, in_table}
use Rattle.machine.specs.Writes.{key_of, key_in}
use Rattle.machine.specs.declared.lent.Entry.{Entry}

-- a number from 0 to 7
pub record Digit (z : ℤ) : Type 0 where
  pub is : z ≡ pos (nat z)
  pub below : nat z < 8

digit : (z : ℤ) → le_z (pos 0) z && le_z z (pos 7) ≡ true → Digit z
digit (pos n) h = record { is = refl; below = omega (arith, leb-true n 7 (both (leb 0 n) (leb n 7) h).1) }
digit (negsuc n) h = absurd (false≢true h)

pub key_digits : (owner line : ℤ) → in_table (key_of owner line) ≡ true → Digit owner × Digit line
unfolding in_table
key_digits owner line e =
    let h = both (le_z (pos 0) owner && le_z owner (pos 7)) _ e in
    (digit owner h.0, digit line h.1)

-- w is such a number z as the code reads it, which `as usize` turns into a natural number
pub record Cast (w z : ℤ) : Type 0 where
  pub not_negative : T (non_neg w)
  pub is : nat_abs w ≡ nat z
  pub below : nat_abs w < 8

pub cast : (w z : ℤ) → w ≡ z → Digit z → Cast w z
cast w z e d = rw (e ∙ d.is) (record { not_negative = tt; is = refl; below = d.below })

-- the tests of an entry's key, and its place, as the code reads owner and line
module _ (entry : Entry) where
  pub tested : {owner line : ℤ} → owner ≡ entry.owner → line ≡ entry.line → {r : Bool} → r ≡ in_table (key_of owner line) → in_table (key_in entry) ≡ r
  tested o l e = rw (← o, ← l) (sym e)

  pub placed : (table : ℕ) {owner line : ℤ} → owner ≡ entry.owner → line ≡ entry.line → {q : ℕ} → q ≡ key_place table (key_of owner line) → q ≡ key_place table (key_in entry)
  placed table o l e = rw (← o, ← l) e
