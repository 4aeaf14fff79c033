-- One turn of a loop over words, and its end.
use mathlib.Core.Path.{◌≡◌, ◌∙◌}
use mathlib.Core.List.{List, ◌++◌, append-nil}
use Prim.Native.Nat.{ℕ, suc, ◌+◌, ◌≤◌, ◌<◌}
use native.Mathlib.Nat.{zero-add}
use native.Mathlib.Numerals.{add-one}
use native.Mathlib.Omega.{arith}
use lib.ListN.{length, get_or, take, drop, set, drop_of_length-le}
use lib.Seq.{take_all, paste, paste-suc}

-- ---- a loop that fills a list from the front with another, one store a turn: after i turns it is `take i s ++ drop i d`

module _ {A : Type 0} (s d : List A) (i : ℕ) where
  pub fill_turn : (r : List A) (v z : A) → i < length s → i < length d → v ≡ get_or s i z → r ≡ take i s ++ drop i d
      → set r i v ≡ take (i + 1) s ++ drop (i + 1) d
  fill_turn r v z h k e q = rw (q, e, add-one i) (rw (zero-add i, zero-add (suc i)) at (paste-suc d 0 s i z (rw zero-add k) h))

  pub fill_end : (r : List A) → length s ≤ i → length d ≤ i → r ≡ take i s ++ drop i d → r ≡ s
  fill_end r h k q = q ∙ rw (take_all i s h, drop_of_length-le d k) (append-nil s)

-- r holds the first i words of s, and from there on those of d; both have n
pub record Filled (n : ℕ) (s d r : List ℕ) (i : ℕ) : Type 0 where
  pub at : i ≤ n
  pub words : r ≡ take i s ++ drop i d

-- the next word of s is stored
pub filled_turn : {n i v : ℕ} {s d r : List ℕ} → length s ≡ n → length d ≡ n → i < n → v ≡ get_or s i 0 → Filled n s d r i → Filled n s d (set r i v) (i + 1)
filled_turn {n} {i} {v} {s} {d} {r} p q h e f =
    record { at = omega arith; words = fill_turn s d i r v 0 (omega arith) (omega arith) e f.words }

pub filled_end : {n i : ℕ} {s d r : List ℕ} → length s ≡ n → length d ≡ n → n ≤ i → Filled n s d r i → r ≡ s
filled_end {n} {i} {s} {d} {r} p q h f = fill_end s d i r (omega arith) (omega arith) f.words

-- ---- a loop that stores a list into a part of another

pub store_turn : (d s r : List ℕ) (at j : ℕ) → at + j < length d → j < length s → r ≡ paste d at s j → set r (at + j) (get_or s j 0) ≡ paste d at s (j + 1)
store_turn d s r at j h k q = rw (q, add-one) (paste-suc d at s j 0 h k)

pub store_end : (d s r : List ℕ) (at j : ℕ) → j ≡ length s → r ≡ paste d at s j → r ≡ take at d ++ s ++ drop (at + length s) d
store_end d s r at j e q = q ∙ rw (e, take_all (length s) s (omega arith))
