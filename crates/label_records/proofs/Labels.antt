-- Label records: where the words of a label stand, and what makes a record bad. Assumes nothing.
use mathlib.Core.Path.{◌≡◌, refl, ap, ◌∙◌}
use mathlib.Core.Bool.{Bool, true, false, ◌&&◌, not}
use mathlib.Core.List.{List, [], ◌∷◌}
use Prim.Native.Nat.{ℕ, ◌+◌, ◌*◌, ◌^◌, ◌≤◌, ◌<◌}
use native.Mathlib.Nat.{mod-eq_of_lt}
use native.Mathlib.Omega.{arith}
use lib.ListN.{length, get_or}
use borrow.Author.Tests.{le-leb, lt-leb, lt-ltb, le-ltb}
use Rattle.labels.specs.Labels.{is_own}
use Rattle.book.specs.Bytes.{le64}
use Rattle.book.specs.Records.{LabelRecord, word64, label_of, labels_format}
use Rattle.book.specs.Refusals.{no_label, labelled, label_fits, bad_label}
use Rattle.book.specs.Start.{tabulate}
use Rattle.book.proofs.Least.{least_at, rises_least}
use Rattle.book.proofs.Tabulate.{tabulate_at}

-- ---- the words of the label that is read from byte `at`

module _ (s : List ℕ) (at : ℕ) where
  abbrev pub read_label : List ℕ
  read_label = label_of (labels_format.read s at)

  pub length_label : length read_label ≡ 8
  unfolding label_of
  length_label = refl

  abbrev word_at : ℕ → ℕ
  word_at n = word64 (le64 s n)

  words : read_label ≡ tabulate (λ w. word_at (at + 2 + 8 * w)) 8
  unfolding label_of labels_format tabulate
  words =
      let e0 : at + 2 ≡ at + 2 + 8 * 0 = omega arith in
      let e1 : at + 10 ≡ at + 2 + 8 * 1 = omega arith in
      let e2 : at + 18 ≡ at + 2 + 8 * 2 = omega arith in
      let e3 : at + 26 ≡ at + 2 + 8 * 3 = omega arith in
      let e4 : at + 34 ≡ at + 2 + 8 * 4 = omega arith in
      let e5 : at + 42 ≡ at + 2 + 8 * 5 = omega arith in
      let e6 : at + 50 ≡ at + 2 + 8 * 6 = omega arith in
      let e7 : at + 58 ≡ at + 2 + 8 * 7 = omega arith in
      λ i. word_at (e0 i) ∷ word_at (e1 i) ∷ word_at (e2 i) ∷ word_at (e3 i) ∷ word_at (e4 i) ∷ word_at (e5 i) ∷ word_at (e6 i) ∷ word_at (e7 i) ∷ []

  -- a word read as a number of 64 bits
  pub label_word : (w : ℕ) {n : ℕ} → w < 8 → n ≡ le64 s (at + 2 + 8 * w) → n < 2 ^ 64 → n ≡ get_or read_label w 0
  label_word w {n} h e l =
      let there : get_or read_label w 0 ≡ word_at (at + 2 + 8 * w) = ap (λ (x : List ℕ). get_or x w 0) words ∙ tabulate_at (λ v. word_at (at + 2 + 8 * v)) 8 w 0 h in
      rw (there, ← e, mod-eq_of_lt l)

-- ---- bad records

-- the least place that label record i may have
abbrev pub least_label : List LabelRecord → ℕ → ℕ
least_label = least_at labelled no_label

module _ (labels : List LabelRecord) (i : ℕ) {x : LabelRecord} (e : get_or labels i no_label ≡ x) where
  pub far_label : 511 < x.place → bad_label labels i ≡ true
  unfolding bad_label label_fits
  far_label h = rw (e, le-ltb x.place 512 h)

  pub fallen_label : x.place < least_label labels i → bad_label labels i ≡ true
  unfolding bad_label
  fallen_label l = rw (rises_least labelled no_label labels i, e, lt-leb (least_label labels i) x.place l) (never (label_fits x))
    where
      never : (t : Bool) → not (t && false) ≡ true
      never true = refl
      never false = refl

  pub own_label : x.place < 512 → is_own x.place (label_of x) ≡ true → bad_label labels i ≡ true
  unfolding bad_label label_fits
  own_label h o = rw (e, lt-ltb x.place 512 h, o)

  pub good_label : x.place < 512 → least_label labels i ≤ x.place → is_own x.place (label_of x) ≡ false → bad_label labels i ≡ false
  unfolding bad_label label_fits
  good_label h l o = rw (rises_least labelled no_label labels i, e, lt-ltb x.place 512 h, o, le-leb (least_label labels i) x.place l)
