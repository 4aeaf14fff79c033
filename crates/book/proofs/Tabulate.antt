-- Tables of a function's values. Assumes nothing.
use mathlib.Core.Path.{◌≡◌, refl, sym, ap, ap₂, ◌∙◌}
use mathlib.Core.List.{List, [], ◌∷◌, ◌++◌}
use mathlib.Core.Bool.{cond}
use mathlib.Core.Logic.{⊎_elim}
use Prim.Native.Nat.{ℕ, zero, suc, ◌<◌}
use native.Mathlib.Decide.{ℕ_discrete}
use native.Mathlib.Nat.{not-suc-le-zero, le_of_suc-le-suc, eq-or-lt_of_le}
use native.Mathlib.Omega.{arith}
use lib.Dec.{eqb}
use lib.ListN.{length, get_or, set, length-append, length-set, get_or-append}
use lib.Seq.{ext_get_or, get_or_at, get_or-set_same, get_or-set_other}
use borrow.Author.Tests.{eq-eqb, ne_eqb}
use Rattle.book.specs.Start.{tabulate}

module _ {A : Type 0} where
  pub length_tabulate : (f : ℕ → A) (n : ℕ) → length (tabulate f n) ≡ n
  unfolding tabulate
  length_tabulate f zero = refl
  length_tabulate f (suc n) = rw length-append (omega (arith, length_tabulate f n))

  pub tabulate_at : (f : ℕ → A) (n i : ℕ) (d : A) → i < n → get_or (tabulate f n) i d ≡ f i
  unfolding tabulate
  tabulate_at f zero i d h = absurd (not-suc-le-zero h)
  tabulate_at f (suc n) i d h =
      ⊎_elim
      (λ (e : i ≡ n). rw e (get_or_at (tabulate f n) (f n) [] d n (length_tabulate f n)))
      (λ (l : i < n). get_or-append (tabulate f n) (f n ∷ []) d i (omega (arith, length_tabulate f n)) ∙ tabulate_at f n i d l)
      (eq-or-lt_of_le (le_of_suc-le-suc h))

  pub tabulate_cong : (f g : ℕ → A) (n : ℕ) → ((i : ℕ) → i < n → f i ≡ g i) → tabulate f n ≡ tabulate g n
  unfolding tabulate
  tabulate_cong f g zero h = refl
  tabulate_cong f g (suc n) h =
      ap₂ (λ (l : List A) (a : A). l ++ (a ∷ [])) (tabulate_cong f g n (λ i l. h i (omega arith))) (h n (omega arith))

  -- a table with one value replaced
  pub set_tabulate : (f : ℕ → A) (n p : ℕ) (v : A) → set (tabulate f n) p v ≡ tabulate (λ q. cond (eqb p q) v (f q)) n
  set_tabulate f n p v =
      ext_get_or v (set (tabulate f n) p v) (tabulate (λ q. cond (eqb p q) v (f q)) n)
      (length-set (tabulate f n) p v ∙ length_tabulate f n ∙ sym (length_tabulate (λ q. cond (eqb p q) v (f q)) n))
      (λ i h. here i (omega (arith, length-set (tabulate f n) p v, length_tabulate f n)) (ℕ_discrete i p))
    where
      here : (i : ℕ) → i < n → Dec (i ≡ p) → get_or (set (tabulate f n) p v) i v ≡ get_or (tabulate (λ q. cond (eqb p q) v (f q)) n) i v
      here i l (yes e) =
          rw (e, tabulate_at (λ q. cond (eqb p q) v (f q)) n p v (omega arith), eq-eqb p p refl)
          (get_or-set_same (tabulate f n) p v v (omega (arith, length_tabulate f n)))
      here i l (no e) =
          rw (tabulate_at (λ q. cond (eqb p q) v (f q)) n i v l, ne_eqb p i (λ q. e (sym q)))
          (get_or-set_other (tabulate f n) p i v v e ∙ tabulate_at f n i v l)

  -- a constant table, tested once against the first n values of f, holds f i at each index i
  pub table_at : (f : ℕ → A) (n : ℕ) (xs : List A) → xs ≡ tabulate f n → (i : ℕ) (d : A) → i < n → get_or xs i d ≡ f i
  table_at f n xs e i d h = ap (λ (l : List A). get_or l i d) e ∙ tabulate_at f n i d h
