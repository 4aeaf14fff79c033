-- Laws of the lent label words.
use mathlib.Core.Path.{◌≡◌, refl, sym, ap, ap₂, ◌∙◌}
use mathlib.Core.Bool.{cond}
use mathlib.Core.List.{List, [], ◌++◌, append_assoc, append-nil}
use mathlib.Core.Logic.{⊎_elim}
use Prim.Native.Nat.{ℕ, zero, suc, ◌+◌, ◌*◌, ◌/◌, ◌%◌, ◌^◌, ◌≤◌, ◌<◌}
use native.Mathlib.Nat.{not-suc-le-zero, le_of_suc-le-suc, eq-or-lt_of_le}
use native.Mathlib.Numerals.{add-one}
use native.Mathlib.Omega.{arith}
use lib.Dec.{eqb}
use lib.ListN.{length, take, drop, drop_of_length-le, set, length-append, length-take, length-drop, take-append-drop, replicate-append-replicate, get_or, get_or-replicate}
use lib.Seq.{get_or-take, get_or-drop, get_or-set_same, get_or-set_other, take_at, take_all, take-append-le, drop_at, drop-append-le, set-append_left, take-set-le, drop-set-add}
use borrow.Author.Tests.{eq-eqb, ne_eqb}
use Rattle.places.specs.Sets.{empty, single}
use Rattle.labels.specs.Labels.{label_at, set_label, labels_by, own_labels, no_labels}
use Rattle.places.proofs.Sets.{length_single}
use Rattle.places.proofs.Shapes.{single_word}

-- eight words that the first list has
part_before : (x y : List ℕ) (at : ℕ) → at + 8 ≤ length x → take 8 (drop at (x ++ y)) ≡ take 8 (drop at x)
part_before x y at h =
    let l : 8 ≤ length (drop at x) = rw length-drop (omega arith) in
    ap (take 8) (drop-append-le at x y (omega arith)) ∙ take-append-le 8 (drop at x) y l

-- ---- the label of a cell

pub label_word : (labels : List ℕ) (p w : ℕ) → w < 8 → get_or (label_at labels p) w 0 ≡ get_or labels (8 * p + w) 0
label_word labels p w h = get_or-take 8 (drop (8 * p) labels) w 0 h ∙ get_or-drop (8 * p) labels w 0

pub length_label : (labels : List ℕ) (p : ℕ) → 8 * p + 8 ≤ length labels → length (label_at labels p) ≡ 8
length_label labels p h = simp (length-take, length-drop) (omega arith)

-- a word of a place alone
pub own_bit : (p : ℕ) → p < 512 → get_or (single 8 p) (p / 64) 0 ≡ 2 ^ (p % 64)
own_bit p h = ap (λ (s : List ℕ). get_or s (p / 64) 0) (single_word 8 p (omega arith)) ∙ get_or-set_same (empty 8) (p / 64) (2 ^ (p % 64)) 0 (omega arith)

pub own_zero : (p w : ℕ) → p < 512 → w < 8 → (w ≡ p / 64 → ⊥) → get_or (single 8 p) w 0 ≡ 0
own_zero p w h l n =
    ap (λ (s : List ℕ). get_or s w 0) (single_word 8 p (omega arith)) ∙ get_or-set_other (empty 8) (p / 64) w (2 ^ (p % 64)) 0 n ∙ get_or-replicate 8 w 0 0 l

-- ---- labels of eight words each, that of cell p being `label p`

module _ (label : ℕ → List ℕ) (eight : (p : ℕ) → length (label p) ≡ 8) where
  pub length_by : (n : ℕ) → length (labels_by label n) ≡ 8 * n
  unfolding labels_by
  length_by zero = refl
  length_by (suc n) = rw length-append (omega (arith, length_by n, eight n))

  pub label_by : (n p : ℕ) → p < n → label_at (labels_by label n) p ≡ label p
  unfolding labels_by
  label_by zero p h = absurd (not-suc-le-zero h)
  label_by (suc n) p h =
      ⊎_elim
      (λ (e : p ≡ n). rw (e, drop_at (labels_by label n) (label n) (8 * n) (length_by n)) (take_all 8 (label n) (omega (arith, eight n))))
      (λ (l : p < n). part_before (labels_by label n) (label n) (8 * p) (omega (arith, length_by n)) ∙ label_by n p l)
      (eq-or-lt_of_le (le_of_suc-le-suc h))

-- ---- each cell's own place alone

pub length_own : (n : ℕ) → length (own_labels n) ≡ 8 * n
length_own n = length_by (single 8) (length_single 8) n

-- a store at or behind m leaves the first m elements
set_behind : (l : List ℕ) (m i v : ℕ) → set l (m + i) v ≡ take m l ++ set (drop m l) i v
set_behind l m i v =
    sym (take-append-drop m (set l (m + i) v)) ∙ ap₂ (λ (x y : List ℕ). x ++ y) (take-set-le m l (m + i) v (omega arith)) (drop-set-add m l i v)

none_first : (m : ℕ) → no_labels (suc m) ≡ empty 8 ++ no_labels m
unfolding no_labels
none_first m =
    let e : 8 * suc m ≡ 8 + 8 * m = omega arith in
    ap empty e ∙ sym (replicate-append-replicate 8 (8 * m) 0)

-- one bit stored behind the labels of the first n cells, where all other words are 0
pub own_turn : (n m v : ℕ) → n < 512 → v ≡ 2 ^ (n % 64) → set (own_labels n ++ no_labels (suc m)) (8 * n + n / 64) v ≡ own_labels (n + 1) ++ no_labels m
unfolding labels_by
own_turn n m v h e =
    set_behind (own_labels n ++ no_labels (suc m)) (8 * n) (n / 64) v
    ∙ ap₂ (λ (x y : List ℕ). x ++ set y (n / 64) v)
    (take_at (own_labels n) (no_labels (suc m)) (8 * n) (length_own n))
    (drop_at (own_labels n) (no_labels (suc m)) (8 * n) (length_own n) ∙ none_first m)
    ∙ ap (λ (y : List ℕ). own_labels n ++ y)
    (set-append_left (empty 8) (no_labels m) (n / 64) v (omega arith)
    ∙ ap (λ (y : List ℕ). y ++ no_labels m) (ap (set (empty 8) (n / 64)) e ∙ sym (single_word 8 n (omega arith))))
    ∙ sym (append_assoc (own_labels n) (single 8 n) (no_labels m))
    ∙ ap (λ (j : ℕ). own_labels j ++ no_labels m) (sym (add-one n))

-- each cell's label
pub label_own : (n p : ℕ) → p < n → label_at (own_labels n) p ≡ single 8 p
label_own n p h = label_by (single 8) (length_single 8) n p h

-- ---- one label replaced

pub by_cong : (f g : ℕ → List ℕ) (n : ℕ) → ((p : ℕ) → p < n → f p ≡ g p) → labels_by f n ≡ labels_by g n
unfolding labels_by
by_cong f g zero h = refl
by_cong f g (suc n) h = ap₂ (λ (x y : List ℕ). x ++ y) (by_cong f g n (λ p l. h p (omega arith))) (h n (omega arith))

module _ (f : ℕ → List ℕ) (eight : (p : ℕ) → length (f p) ≡ 8) (p : ℕ) (label : List ℕ) where
  -- p's label is `label`, and the others are those of f
  abbrev pub relabelled : ℕ → List ℕ
  relabelled q = cond (eqb p q) label (f q)

  relabelled_other : (q : ℕ) → (p ≡ q → ⊥) → relabelled q ≡ f q
  relabelled_other q n = rw (ne_eqb p q n)

  pub set_label_by : (n : ℕ) → p < n → set_label (labels_by f n) p label ≡ labels_by relabelled n
  unfolding labels_by
  set_label_by zero h = absurd (not-suc-le-zero h)
  set_label_by (suc n) h = ⊎_elim last (λ l. before l (set_label_by n l)) (eq-or-lt_of_le (le_of_suc-le-suc h))
    where
      last : p ≡ n → set_label (labels_by f n ++ f n) p label ≡ labels_by relabelled n ++ relabelled n
      last e =
          let behind : drop (8 * n + 8) (labels_by f n ++ f n) ≡ [] = drop_of_length-le (labels_by f n ++ f n) {i = 8 * n + 8} (rw length-append (omega (arith, length_by f eight n, eight n))) in
          let others : labels_by relabelled n ≡ labels_by f n = by_cong relabelled f n (λ q l. relabelled_other q (λ x. omega arith)) in
          rw (others, eq-eqb p n e, e, behind, take_at (labels_by f n) (f n) (8 * n) (length_by f eight n), append-nil (labels_by f n ++ label))

      before : p < n → set_label (labels_by f n) p label ≡ labels_by relabelled n → set_label (labels_by f n ++ f n) p label ≡ labels_by relabelled n ++ relabelled n
      before l ih =
          rw (
            relabelled_other n (λ e. omega arith),
            ← ih,
            take-append-le (8 * p) (labels_by f n) (f n) (omega (arith, length_by f eight n)),
            drop-append-le (8 * p + 8) (labels_by f n) (f n) (omega (arith, length_by f eight n)),
          )
          (sym (append_assoc (take (8 * p) (labels_by f n) ++ label) (drop (8 * p + 8) (labels_by f n)) (f n)))
