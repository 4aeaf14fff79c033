-- Sets of predicates that agree, and sets with members in one word only, as a place alone.
use mathlib.Core.Path.{◌≡◌, refl, ap, ap₂, ◌∙◌}
use mathlib.Core.List.{List, ◌∷◌}
use mathlib.Core.Bool.{Bool, false, ◌&&◌, cond}
use Prim.Native.Nat.{ℕ, zero, suc, ◌+◌, ◌*◌, ◌/◌, ◌%◌, ◌^◌, ◌<◌}
use mathlib.Core.Logic.{⊎_elim}
use native.Mathlib.Decide.{ℕ_discrete}
use native.Mathlib.Nat.{not-suc-le-zero, le_of_suc-le-suc, eq-or-lt_of_le}
use native.Mathlib.Omega.{arith}
use lib.Dec.{eqb, eqb-suc-suc}
use lib.ListN.{set}
use borrow.Author.Tests.{eq-eqb, ne_eqb}
use Rattle.places.specs.Sets.{empty, word_of, set_of, single}

-- ---- words and sets of predicates that agree

pub word_of_cong : (f g : ℕ → Bool) (n : ℕ) → ((k : ℕ) → k < n → f k ≡ g k) → word_of f n ≡ word_of g n
unfolding word_of
word_of_cong f g zero h = refl
word_of_cong f g (suc n) h = ap₂ (λ (x : ℕ) (b : Bool). x + cond b (2 ^ n) 0) (word_of_cong f g n (λ k l. h k (omega arith))) (h n (omega arith))

pub set_of_cong : (f g : ℕ → Bool) (n : ℕ) → ((p : ℕ) → p < 64 * n → f p ≡ g p) → set_of n f ≡ set_of n g
unfolding set_of
set_of_cong f g zero h = refl
set_of_cong f g (suc n) h =
    ap₂ (λ (x : ℕ) (s : List ℕ). x ∷ s)
    (word_of_cong f g 64 (λ k l. h k (omega arith)))
    (set_of_cong (λ p. f (64 + p)) (λ p. g (64 + p)) n (λ p l. h (64 + p) (omega arith)))

pub word_of_none : (n : ℕ) → word_of (λ k. false) n ≡ 0
unfolding word_of
word_of_none zero = refl
word_of_none (suc n) = omega (arith, word_of_none n)

pub set_of_none : (n : ℕ) → set_of n (λ p. false) ≡ empty n
unfolding set_of
set_of_none zero = refl
set_of_none (suc n) = ap₂ (λ (x : ℕ) (s : List ℕ). x ∷ s) (word_of_none 64) (set_of_none n)

-- ---- members in word t only, at the bits that g picks

abbrev pub in_word : ℕ → (ℕ → Bool) → ℕ → Bool
in_word t g p = eqb (p / 64) t && g (p % 64)

pub one_word : (n t : ℕ) (g : ℕ → Bool) → t < n → set_of n (in_word t g) ≡ set (empty n) t (word_of g 64)
unfolding set_of
one_word zero t g h = absurd (not-suc-le-zero h)
one_word (suc n) zero g h =
    ap₂ (λ (x : ℕ) (s : List ℕ). x ∷ s)
    (word_of_cong (in_word 0 g) g 64 (λ k l. here k l))
    (set_of_cong (λ p. in_word 0 g (64 + p)) (λ p. false) n (λ p l. past p) ∙ set_of_none n)
  where
    here : (k : ℕ) → k < 64 → in_word 0 g k ≡ g k
    here k l =
        let q : k / 64 ≡ 0 = omega arith in
        let r : k % 64 ≡ k = omega arith in
        rw (q, r)

    past : (p : ℕ) → in_word 0 g (64 + p) ≡ false
    past p = rw (ne_eqb ((64 + p) / 64) 0 (λ e. omega arith))
one_word (suc n) (suc t) g h =
    ap₂ (λ (x : ℕ) (s : List ℕ). x ∷ s)
    (word_of_cong (in_word (suc t) g) (λ k. false) 64 (λ k l. before k l) ∙ word_of_none 64)
    (set_of_cong (λ p. in_word (suc t) g (64 + p)) (in_word t g) n (λ p l. next p) ∙ one_word n t g (le_of_suc-le-suc h))
  where
    before : (k : ℕ) → k < 64 → in_word (suc t) g k ≡ false
    before k l = rw (ne_eqb (k / 64) (suc t) (λ e. omega arith))

    next : (p : ℕ) → in_word (suc t) g (64 + p) ≡ in_word t g p
    next p =
        let q : (64 + p) / 64 ≡ suc (p / 64) = omega arith in
        let r : (64 + p) % 64 ≡ p % 64 = omega arith in
        rw (q, r, eqb-suc-suc)

-- ---- a place alone

word_of_one : (k n : ℕ) → k < n → word_of (λ i. eqb i k) n ≡ 2 ^ k
unfolding word_of
word_of_one k zero h = absurd (not-suc-le-zero h)
word_of_one k (suc n) h =
    ⊎_elim
    (λ (e : k ≡ n). rw (e, eq-eqb n n refl) (ap (λ (m : ℕ). m + 2 ^ n) (word_of_cong (λ i. eqb i k) (λ i. false) n (λ i l. ne_eqb i k (λ q. omega arith)) ∙ word_of_none n) ∙ omega arith))
    (λ (l : k < n). rw (ne_eqb n k (λ q. omega arith)) (omega (arith, word_of_one k n l)))
    (eq-or-lt_of_le (le_of_suc-le-suc h))

pub single_word : (n p : ℕ) → p < 64 * n → single n p ≡ set (empty n) (p / 64) (2 ^ (p % 64))
unfolding single
single_word n p h =
    set_of_cong (λ q. eqb q p) (in_word (p / 64) (λ k. eqb k (p % 64))) n (λ q l. split q)
    ∙ one_word n (p / 64) (λ k. eqb k (p % 64)) (omega arith)
    ∙ ap (set (empty n) (p / 64)) (word_of_one (p % 64) 64 (omega arith))
  where
    split : (q : ℕ) → eqb q p ≡ in_word (p / 64) (λ k. eqb k (p % 64)) q
    split q = go (ℕ_discrete (q / 64) (p / 64)) (ℕ_discrete (q % 64) (p % 64))
      where
        go : Dec (q / 64 ≡ p / 64) → Dec (q % 64 ≡ p % 64) → eqb q p ≡ in_word (p / 64) (λ k. eqb k (p % 64)) q
        go (yes e) (yes r) = rw (eq-eqb q p (omega arith), eq-eqb (q / 64) (p / 64) e, eq-eqb (q % 64) (p % 64) r)
        go (yes e) (no r) = rw (ne_eqb q p (λ x. r (ap (λ (m : ℕ). m % 64) x)), eq-eqb (q / 64) (p / 64) e, ne_eqb (q % 64) (p % 64) r)
        go (no e) r = rw (ne_eqb q p (λ x. e (ap (λ (m : ℕ). m / 64) x)), ne_eqb (q / 64) (p / 64) e)
