-- Lent memory and the cells that it holds determine each other. Assumes nothing.
use mathlib.Core.Path.{◌≡◌, refl, sym, ◌∙◌}
use mathlib.Core.List.{List, [], ◌++◌}
use mathlib.Core.Bool.{Bool, true, false, ◌&&◌, false≢true}
use mathlib.Core.Logic.{⊎_elim}
use Prim.Native.Nat.{ℕ, zero, suc, ◌+◌, ◌*◌, ◌≤◌, ◌<◌}
use native.Mathlib.Nat.{not-suc-le-zero, le_of_suc-le-suc, eq-or-lt_of_le}
use native.Mathlib.Omega.{arith}
use lib.Dec.{ltb}
use lib.IntN.{ℤ, pos}
use lib.ListN.{length, get_or, take, drop, length-append, length-drop, drop_of_length-le, get_or-eq_default}
use lib.Seq.{ext_get_or, take_all, take-append-le, take-add, drop_at, drop-append-le}
use borrow.Author.Tests.{lt-ltb}
use Rattle.places.specs.Sets.{Words, has, set_of}
use Rattle.labels.specs.Labels.{label_at}
use Rattle.places.proofs.Sets.{within_antisym, has_below, has_set_of, within_members, length_set_of, words_set_of}
use Rattle.book.specs.Start.{tabulate}
use Rattle.monitor.specs.Labelled.{Lab}
use Rattle.monitor.specs.Run.{Cell, absent}
use Rattle.monitor.specs.Call.{cells_of, amounts_in, presence_in, labels_in}
use Rattle.book.proofs.Tabulate.{length_tabulate, tabulate_at}

-- what is found beyond the 512 places
abbrev pub nowhere : Lab Cell
nowhere = record { val = absent; lab = [] }

-- lent memory of the right size; presence has words of 64 bits
pub record Sizes (amounts : List ℤ) (presence labels : List ℕ) : Type 0 where
  pub amounts_are : length amounts ≡ 512
  pub presence_is : length presence ≡ 8
  pub labels_are : length labels ≡ 4096
  pub words : Words presence

-- ---- from cells to lent memory and back

-- each cell's label has eight words
pub record Eight (cells : ℕ → Lab Cell) (n : ℕ) : Type 0 where
  pub words : (q : ℕ) → q < n → length (cells q).lab ≡ 8

module _ (cells : ℕ → Lab Cell) where
  eight_less : (n : ℕ) → Eight cells (suc n) → Eight cells n
  eight_less n h = record { words = λ q l. h.words q (omega arith) }

  pub length_labels_in : (n : ℕ) → Eight cells n → length (labels_in cells n) ≡ 8 * n
  unfolding labels_in
  length_labels_in zero h = refl
  length_labels_in (suc n) h = rw length-append (omega (arith, length_labels_in n (eight_less n h), h.words n (omega arith)))

  label_in : (n q : ℕ) → Eight cells n → q < n → label_at (labels_in cells n) q ≡ (cells q).lab
  unfolding labels_in
  label_in zero q h l = absurd (not-suc-le-zero l)
  label_in (suc n) q h l =
      let before = eight_less n h in
      let long : length (labels_in cells n) ≡ 8 * n = length_labels_in n before in
      ⊎_elim
      (λ (e : q ≡ n).
      let last : drop (8 * n) (labels_in cells (suc n)) ≡ (cells n).lab = drop_at (labels_in cells n) (cells n).lab (8 * n) long in
      rw (e, last) (take_all 8 (cells n).lab (omega (arith, h.words n (omega arith)))))
      (λ (i : q < n).
      let rest : drop (8 * q) (labels_in cells (suc n)) ≡ drop (8 * q) (labels_in cells n) ++ (cells n).lab =
      drop-append-le (8 * q) (labels_in cells n) (cells n).lab (omega arith) in
      rw rest (take-append-le 8 (drop (8 * q) (labels_in cells n)) (cells n).lab (rw length-drop (omega arith)) ∙ label_in n q before i))
      (eq-or-lt_of_le (le_of_suc-le-suc l))

  -- the cells that stand in lent memory are those that were put there
  pub cells_kept : Eight cells 512 → (q : ℕ) → q < 512 → cells_of (amounts_in cells) (presence_in cells) (labels_in cells 512) q ≡ cells q
  unfolding cells_of amounts_in presence_in
  cells_kept h q l =
      let present : has (presence_in cells) q ≡ (cells q).val.present = has_set_of 8 (λ p. (cells p).val.present) q ∙ rw (lt-ltb q (64 * 8) l) in
      let amount : get_or (amounts_in cells) q (pos 0) ≡ (cells q).val.amount = tabulate_at (λ p. (cells p).val.amount) 512 q (pos 0) l in
      rw (present, amount, label_in 512 q h l)

-- ---- from lent memory to cells and back

-- a set is the set of its members
set_of_has : (n : ℕ) (s : List ℕ) → length s ≡ n → Words s → set_of n (has s) ≡ s
set_of_has n s e w =
    within_antisym (length_set_of n (has s) ∙ sym e)
    ((within_members (words_set_of n (has s))).1 (λ p h. and_right (ltb p (64 * n)) (sym (has_set_of n (has s) p) ∙ h)))
    ((within_members w).1 (λ p h. has_set_of n (has s) p ∙ rw (lt-ltb p (64 * n) (omega (arith, has_below s p h)), h)))
  where
    and_right : (x : Bool) {y : Bool} → x && y ≡ true → y ≡ true
    and_right true h = h
    and_right false h = absurd (false≢true h)

labels_taken : (amounts : List ℤ) (presence labels : List ℕ) (n : ℕ) → labels_in (cells_of amounts presence labels) n ≡ take (8 * n) labels
unfolding labels_in cells_of
labels_taken amounts presence labels zero = refl
labels_taken amounts presence labels (suc n) =
    let e : 8 * suc n ≡ 8 * n + 8 = omega arith in
    rw (labels_taken amounts presence labels n, e) (sym (take-add (8 * n) 8 labels))

module _ (amounts : List ℤ) (presence labels : List ℕ) (h : Sizes amounts presence labels) where
  pub amounts_kept : amounts_in (cells_of amounts presence labels) ≡ amounts
  unfolding amounts_in cells_of
  amounts_kept =
      let all = length_tabulate (λ q. get_or amounts q (pos 0)) 512 in
      ext_get_or (pos 0) (tabulate (λ q. get_or amounts q (pos 0)) 512) amounts (all ∙ sym h.amounts_are)
      (λ q l. tabulate_at (λ q. get_or amounts q (pos 0)) 512 q (pos 0) (omega arith))

  pub presence_kept : presence_in (cells_of amounts presence labels) ≡ presence
  unfolding presence_in cells_of
  presence_kept = set_of_has 8 presence h.presence_is h.words

  pub labels_kept : labels_in (cells_of amounts presence labels) 512 ≡ labels
  labels_kept = labels_taken amounts presence labels 512 ∙ take_all (8 * 512) labels (omega (arith, h.labels_are))

  -- nothing lies beyond the 512 places
  pub nothing_beyond : (q : ℕ) → 512 ≤ q → cells_of amounts presence labels q ≡ nowhere
  unfolding cells_of
  nothing_beyond q l =
      let past : length amounts ≤ q = omega (arith, h.amounts_are) in
      let behind : length labels ≤ 8 * q = omega (arith, h.labels_are) in
      rw (not_there (has presence q) refl, get_or-eq_default amounts (pos 0) past, drop_of_length-le labels behind)
    where
      not_there : (x : Bool) → has presence q ≡ x → has presence q ≡ false
      not_there true e = absurd (let z : ⊥ = omega (arith, has_below presence q e, h.presence_is) in z)
      not_there false e = e
