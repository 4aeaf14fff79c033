-- Cells that are the same inside a reach: at the start of two books by one computed test over the 512 places; and of cells that are written down, or that lent memory holds. Assumes nothing.
use mathlib.Core.Path.{◌≡◌, refl, sym, ap, ◌∙◌}
use mathlib.Core.List.{List}
use mathlib.Core.Bool.{Bool, true, false, ◌&&◌, ◌||◌, not, cond, false≢true}
use mathlib.Core.Logic.{inl, ⊎_elim}
use mathlib.Core.Option.{Option, none, some}
use Prim.Native.Nat.{ℕ, zero, suc, ◌≤◌, ◌<◌}
use native.Mathlib.Nat.{not-suc-le-zero, le_of_suc-le-suc, eq-or-lt_of_le}
use native.Mathlib.Omega.{arith}
use lib.Dec.{eqb}
use lib.IntN.{ℤ, pos, negsuc}
use lib.ListN.{length}
use borrow.Author.Tests.{eqb-true, eq-eqb}
use Rattle.places.specs.Sets.{same_words, within, Within}
use Rattle.places.proofs.SameWords.{same_equal}
use Rattle.book.specs.Records.{Book, SameScripts}
use Rattle.book.specs.Layout.{decode}
use Rattle.book.specs.Start.{amount_at}
use Rattle.monitor.specs.Labelled.{Label, Lab, lit}
use Rattle.monitor.specs.Run.{Cell, absent, update}
use Rattle.monitor.specs.Call.{script, start_cells}
use Rattle.claims.specs.TwoBooks.{InsideEither, SameInside, DifferOutside, cells_in}
use Rattle.claims.specs.Witnesses.{only, memory_of}
use Rattle.monitor.proofs.Memory.{Eight, cells_kept}
use Rattle.monitor.proofs.Start.{label_quick, label_quick_is, start_cell, start_is, start_label}

-- ---- tests

-- a test of all numbers below n
unfoldable pub below : (ℕ → Bool) → ℕ → Bool
below f zero = true
below f (suc n) = f n && below f n

both_hold : (x y : Bool) → x && y ≡ true → (x ≡ true) × (y ≡ true)
both_hold true y h = (refl, h)
both_hold false y h = absurd (false≢true h)

pub below_at : (f : ℕ → Bool) (n q : ℕ) → below f n ≡ true → q < n → f q ≡ true
unfolding below
below_at f zero q h l = absurd (not-suc-le-zero l)
below_at f (suc n) q h l =
    let each = both_hold (f n) (below f n) h in
    ⊎_elim (λ (e : q ≡ n). rw e each.0) (λ (i : q < n). below_at f n q each.1 i) (eq-or-lt_of_le (le_of_suc-le-suc l))

-- the same amount, or none
unfoldable pub same_amount : Option ℤ → Option ℤ → Bool
same_amount none none = true
same_amount none (some z) = false
same_amount (some z) none = false
same_amount (some (pos m)) (some (pos n)) = eqb m n
same_amount (some (pos m)) (some (negsuc n)) = false
same_amount (some (negsuc m)) (some (pos n)) = false
same_amount (some (negsuc m)) (some (negsuc n)) = eqb m n

same_amount_is : (x y : Option ℤ) → same_amount x y ≡ true → x ≡ y
unfolding same_amount
same_amount_is none none h = refl
same_amount_is none (some z) h = absurd (false≢true h)
same_amount_is (some z) none h = absurd (false≢true h)
same_amount_is (some (pos m)) (some (pos n)) h = ap (λ k. some (pos k)) (eqb-true m n h)
same_amount_is (some (pos m)) (some (negsuc n)) h = absurd (false≢true h)
same_amount_is (some (negsuc m)) (some (pos n)) h = absurd (false≢true h)
same_amount_is (some (negsuc m)) (some (negsuc n)) h = ap (λ k. some (negsuc k)) (eqb-true m n h)

-- ---- two books at the start

-- the label of one of two books lies inside
unfoldable pub inside_either : Label → Book → Book → ℕ → Bool
inside_either reach b b' q = within (label_quick b.labels q) reach || within (label_quick b'.labels q) reach

-- the records of two books give the same at every place whose label in one of them lies inside a set
unfoldable pub alike : Label → Book → Book → Bool
alike reach b b' =
    below (λ q. not (inside_either reach b b' q)
    || (same_amount (amount_at b.cells q) (amount_at b'.cells q) && same_words (label_quick b.labels q) (label_quick b'.labels q))) 512

starts_alike : (reach : Label) (b b' : Book) → alike reach b b' ≡ true → SameInside reach (start_cells b) (start_cells b')
unfolding alike inside_either start_cell
starts_alike reach b b' h = record { same = λ q l i. same q l (one q l i) }
  where
    first : (c : Book) (q : ℕ) → q < 512 → Within (start_cells c q).lab reach → within (label_quick c.labels q) reach ≡ true
    first c q l w = rw (start_label c q l, label_quick_is c.labels q l) at w.holds

    or_true_left : (x y : Bool) → x ≡ true → x || y ≡ true
    or_true_left x y e = rw e

    or_true_right : (x y : Bool) → y ≡ true → x || y ≡ true
    or_true_right true y e = refl
    or_true_right false y e = e

    one : (q : ℕ) → q < 512 → InsideEither reach (start_cells b q) (start_cells b' q) → inside_either reach b b' q ≡ true
    one q l i =
        let x : Bool = within (label_quick b.labels q) reach in
        let y : Bool = within (label_quick b'.labels q) reach in
        ⊎_elim (λ w. or_true_left x y (first b q l w)) (λ w. or_true_right x y (first b' q l w)) i

    tested : (x y : Bool) → x ≡ true → not x || y ≡ true → y ≡ true
    tested true y e t = t
    tested false y e t = absurd (false≢true e)

    same : (q : ℕ) → q < 512 → inside_either reach b b' q ≡ true → start_cells b q ≡ start_cells b' q
    same q l e =
        let each = both_hold _ _ (tested (inside_either reach b b' q) _ e (below_at _ 512 q h l)) in
        let amounts : amount_at b.cells q ≡ amount_at b'.cells q = same_amount_is _ _ each.0 in
        let labels : label_quick b.labels q ≡ label_quick b'.labels q = same_equal _ _ each.1 in
        rw (start_is b, start_is b', amounts, labels)

same_scripts : {b b' : Book} → script b ≡ script b' → SameScripts b b'
unfolding script
same_scripts e =
    record {
      regions = ap (λ b. b.regions) e;
      rights = ap (λ b. b.rights) e;
      nodes = ap (λ b. b.nodes) e;
      programs = ap (λ b. b.programs) e;
      triggers = ap (λ b. b.triggers) e;
    }

pub differ_outside : (reach : Label) (file file' : List ℕ) → script (decode file) ≡ script (decode file')
    → alike reach (decode file) (decode file') ≡ true → DifferOutside reach file file'
differ_outside reach file file' e h = record { scripts = same_scripts e; cells = starts_alike reach (decode file) (decode file') h }

-- a cell whose label lies inside the reach is the same in both
pub same_start : {reach : Label} {file file' : List ℕ} → DifferOutside reach file file'
    → (q : ℕ) → q < 512 → Within (start_cell (decode file) q).lab reach → start_cell (decode file) q ≡ start_cell (decode file') q
same_start {reach} {file} {file'} d q l w = rw (start_is (decode file), start_is (decode file')) at (d.cells.same q l (inl (rw (← start_is (decode file)) at w)))

-- ---- one cell among cells that are the same

module _ (q : ℕ) (x y : Lab Cell) where
  -- it is the same in both if one of its labels lies inside
  pub only_same : {reach : Label} → q < 512 → SameInside reach (only q x) (only q y) → InsideEither reach x y → x ≡ y
  unfolding only update
  only_same l h i = rw (eq-eqb q q refl) at (h.same q l (rw (eq-eqb q q refl) i))

  -- where neither label lies inside, it may differ
  pub only_outside : (reach : Label) → within x.lab reach ≡ false → within y.lab reach ≡ false → SameInside reach (only q x) (only q y)
  unfolding only update
  only_outside reach h h' = record { same = λ r l. either (eqb r q) }
    where
      either : (t : Bool) → InsideEither reach (cond t x (lit absent)) (cond t y (lit absent)) → cond t x (lit absent) ≡ cond t y (lit absent)
      either true i = absurd (⊎_elim (λ w. false≢true (sym h ∙ w.holds)) (λ w. false≢true (sym h' ∙ w.holds)) i)
      either false i = refl

  -- and so it may beyond the 512 places
  pub only_beyond : (reach : Label) → 512 ≤ q → SameInside reach (only q x) (only q y)
  unfolding only update
  only_beyond reach h = record { same = λ r l i. other r l (eqb r q) refl }
    where
      other : (r : ℕ) → r < 512 → (t : Bool) → eqb r q ≡ t → cond (eqb r q) x (lit absent) ≡ cond (eqb r q) y (lit absent)
      other r l true e = absurd (let z : ⊥ = omega (arith, eqb-true r q e) in z)
      other r l false e = rw e

-- ---- lent memory with such cells

eight_only : (q : ℕ) (x : Lab Cell) → length x.lab ≡ 8 → Eight (only q x) 512
unfolding only update lit
eight_only q x h = record { words = λ r l. either (eqb r q) }
  where
    either : (t : Bool) → length (cond t x (lit absent)).lab ≡ 8
    either true = h
    either false = refl

kept : (t : List (List ℕ)) (s : List ℕ) (q : ℕ) (x : Lab Cell) → length x.lab ≡ 8
    → (r : ℕ) → r < 512 → cells_in (memory_of t s (only q x)) r ≡ only q x r
unfolding memory_of
kept t s q x h r l = cells_kept (only q x) (eight_only q x h) r l

-- it holds the same as other memory just where the cells are the same
module _ (reach : Label) (t t' : List (List ℕ)) (s s' : List ℕ) (q : ℕ) (x y : Lab Cell) (h : length x.lab ≡ 8) (h' : length y.lab ≡ 8) where
  abbrev Held : Type 0
  Held = SameInside reach (cells_in (memory_of t s (only q x))) (cells_in (memory_of t' s' (only q y)))

  pub from_memory : Held → SameInside reach (only q x) (only q y)
  from_memory d = record { same = λ r l i. rw (kept t s q x h r l, kept t' s' q y h' r l) at (d.same r l (rw (kept t s q x h r l, kept t' s' q y h' r l) i)) }

  pub to_memory : SameInside reach (only q x) (only q y) → Held
  to_memory d = record { same = λ r l. rw (kept t s q x h r l, kept t' s' q y h' r l) (d.same r l) }
