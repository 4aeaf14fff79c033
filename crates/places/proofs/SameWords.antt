-- Sets with the same words: the test holds just where the two are equal. Assumes nothing.
use mathlib.Core.Path.{◌≡◌, refl, sym, ap, ap₂, ◌∙◌}
use mathlib.Core.List.{List, [], ◌∷◌}
use mathlib.Core.Bool.{Bool, true, false, false≢true}
use Prim.Native.Nat.{ℕ, ◌+◌, ◌<◌}
use native.Mathlib.Decide.{ℕ_discrete}
use native.Mathlib.Nat.{not-suc-le-zero}
use native.Mathlib.Omega.{arith}
use lib.ListN.{length, get_or}
use lib.Seq.{ext_get_or}
use borrow.Author.Tests.{eq-eqb, eqb-true}
use Rattle.places.specs.Sets.{same_words}
use Rattle.places.proofs.Sets.{and_both}

pub same_refl : (a : List ℕ) → same_words a a ≡ true
unfolding same_words
same_refl [] = refl
same_refl (x ∷ a) = rw (eq-eqb x x refl) (same_refl a)

pub same_equal : (a b : List ℕ) → same_words a b ≡ true → a ≡ b
unfolding same_words
same_equal [] [] e = refl
same_equal [] (y ∷ b) e = absurd (false≢true e)
same_equal (x ∷ a) [] e = absurd (false≢true e)
same_equal (x ∷ a) (y ∷ b) e =
    let h = and_both e in
    ap₂ (λ (u : ℕ) (s : List ℕ). u ∷ s) (eqb-true x y h.0) (same_equal a b h.1)

-- ---- a loop that compares word by word

-- the first n words are the same
pub record SameUpto (a b : List ℕ) (n : ℕ) : Type 0 where
  pub same : (w : ℕ) → w < n → get_or a w 0 ≡ get_or b w 0

module _ {a b : List ℕ} where
  pub upto_none : SameUpto a b 0
  upto_none = record { same = λ w h. absurd (not-suc-le-zero h) }

  pub upto_next : {n : ℕ} → SameUpto a b n → get_or a n 0 ≡ get_or b n 0 → SameUpto a b (n + 1)
  upto_next {n} u e = record { same = λ w h. go w h (ℕ_discrete w n) }
    where
      go : (w : ℕ) → w < n + 1 → Dec (w ≡ n) → get_or a w 0 ≡ get_or b w 0
      go w h (yes q) = rw q e
      go w h (no q) = u.same w (omega arith)

  -- past the last word
  pub same_all : {n : ℕ} → length a ≡ n → length b ≡ n → SameUpto a b n → same_words a b ≡ true
  same_all l k u = ap (same_words a) (sym (ext_get_or 0 a b (l ∙ sym k) (λ w h. u.same w (omega arith)))) ∙ same_refl a

-- at a word that differs
pub same_differs : (a b : List ℕ) (w : ℕ) → (get_or a w 0 ≡ get_or b w 0 → ⊥) → same_words a b ≡ false
same_differs a b w n = go (same_words a b) refl
  where
    go : (t : Bool) → same_words a b ≡ t → t ≡ false
    go true e = absurd (n (ap (λ (s : List ℕ). get_or s w 0) (same_equal a b e)))
    go false e = refl
