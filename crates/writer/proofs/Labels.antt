-- Label records: those of an accepted file, and those made from lent memory. Assumes nothing.
use mathlib.Core.Path.{◌≡◌, refl, sym, ap, ◌∙◌}
use mathlib.Core.List.{List, [], ◌∷◌, ◌++◌}
use mathlib.Core.Bool.{Bool, true, false, cond, not}
use mathlib.Core.Option.{Option, none, some}
use Prim.Native.Nat.{ℕ, zero, suc, ◌+◌, ◌*◌, ◌/◌, ◌%◌, ◌^◌, ◌<◌}
use native.Mathlib.Nat.{add-zero}
use native.Mathlib.Omega.{arith}
use lib.Dec.{eqb, ltb}
use lib.ListN.{length, get_or, take}
use lib.Seq.{take-add, take_all}
use borrow.Author.Tests.{lt-ltb, ltb-true}
use Rattle.places.specs.Sets.{Words, single}
use Rattle.places.proofs.SameWords.{same_refl, same_equal}
use Rattle.labels.specs.Labels.{label_at, labels_by, is_own}
use Rattle.labels.proofs.Labels.{label_word, label_by, by_cong}
use Rattle.book.specs.Bytes.{eight, le64}
use Rattle.book.specs.Records.{LabelRecord, word64, label_of, labels_format}
use Rattle.book.specs.Refusals.{no_label, labelled, label_fits, bad_label}
use Rattle.book.specs.Start.{remembered}
use Rattle.book.specs.Encode.{label_record, labels_from}
use Rattle.book.proofs.Chains.{both, pass}
use Rattle.book.proofs.Remembered.{length_remembered}
use Rattle.encoder.proofs.Codec.{Kept, AllKept, two_back, eight_back, spread_is}
use Rattle.encoder.proofs.Writes.{other_label}
use Rattle.writer.proofs.Rising.{Rising, find, found, good_rising, rising_good, find_good, find_kept, picked_kept, picked_rising, picked_find, picked_are}

-- ---- words of 64 bits

word_is : (n : ℕ) → n < 2 ^ 64 → word64 n ≡ n
word_is n h = omega arith

sum_small : (a b c d e f g h : ℕ) → a < 256 → b < 256 → c < 256 → d < 256 → e < 256 → f < 256 → g < 256 → h < 256
    → a + 256 * b + 65536 * (c + 256 * d) + 4294967296 * (e + 256 * f + 65536 * (g + 256 * h)) < 2 ^ 64
sum_small a b c d e f g h p q r s t u v w = omega arith

byte_lt : (n : ℕ) → n % 256 < 256
byte_lt n = omega arith

eight_small : (n : ℕ) → le64 (eight n) 0 < 2 ^ 64
eight_small n =
    let m : ℕ = n / 4294967296 in
    sum_small (n % 256) (n / 256 % 256) (n / 65536 % 256) (n / 16777216 % 256) (m % 256) (m / 256 % 256) (m / 65536 % 256) (m / 16777216 % 256)
    (byte_lt n) (byte_lt (n / 256)) (byte_lt (n / 65536)) (byte_lt (n / 16777216)) (byte_lt m) (byte_lt (m / 256)) (byte_lt (m / 65536)) (byte_lt (m / 16777216))

-- a word that is read back
word_back : (n : ℕ) → le64 (eight n) 0 ≡ n → word64 n ≡ n
word_back n e = word_is n (rw e at (eight_small n))

-- ---- one record

-- what is written of a label is read back
label_kept : (labels : List ℕ) → Words labels → (p : ℕ) → p < 512 → Kept labels_format (label_record labels p)
unfolding labels_format
label_kept labels words p h = record {
  back = λ rest i. record {
    place = two_back p (omega arith) i;
    w0 = eight_back (get_or labels (8 * p) 0) (words.fits (8 * p)) i;
    w1 = eight_back (get_or labels (8 * p + 1) 0) (words.fits (8 * p + 1)) i;
    w2 = eight_back (get_or labels (8 * p + 2) 0) (words.fits (8 * p + 2)) i;
    w3 = eight_back (get_or labels (8 * p + 3) 0) (words.fits (8 * p + 3)) i;
    w4 = eight_back (get_or labels (8 * p + 4) 0) (words.fits (8 * p + 4)) i;
    w5 = eight_back (get_or labels (8 * p + 5) 0) (words.fits (8 * p + 5)) i;
    w6 = eight_back (get_or labels (8 * p + 6) 0) (words.fits (8 * p + 6)) i;
    w7 = eight_back (get_or labels (8 * p + 7) 0) (words.fits (8 * p + 7)) i;
  };
}

-- a record that is read back has words of 64 bits, so that it is made of the label that it gives
module _ (labels : List ℕ) (q : ℕ) (r : LabelRecord) (kept : Kept labels_format r) (place : r.place ≡ q) (label : label_at labels q ≡ label_of r) where
  word : (k : ℕ) → k < 8 → get_or labels (8 * q + k) 0 ≡ get_or (label_of r) k 0
  word k h = sym (label_word labels q k h) ∙ ap (λ (l : List ℕ). get_or l k 0) label

  pub record_is : label_record labels q ≡ r
  unfolding labels_format label_of
  record_is i = record {
    place = sym place i;
    w0 = (ap (λ (k : ℕ). get_or labels k 0) (sym (add-zero (8 * q))) ∙ word 0 (omega arith) ∙ word_back r.w0 (ap (λ (x : LabelRecord). x.w0) (kept.back []))) i;
    w1 = (word 1 (omega arith) ∙ word_back r.w1 (ap (λ (x : LabelRecord). x.w1) (kept.back []))) i;
    w2 = (word 2 (omega arith) ∙ word_back r.w2 (ap (λ (x : LabelRecord). x.w2) (kept.back []))) i;
    w3 = (word 3 (omega arith) ∙ word_back r.w3 (ap (λ (x : LabelRecord). x.w3) (kept.back []))) i;
    w4 = (word 4 (omega arith) ∙ word_back r.w4 (ap (λ (x : LabelRecord). x.w4) (kept.back []))) i;
    w5 = (word 5 (omega arith) ∙ word_back r.w5 (ap (λ (x : LabelRecord). x.w5) (kept.back []))) i;
    w6 = (word 6 (omega arith) ∙ word_back r.w6 (ap (λ (x : LabelRecord). x.w6) (kept.back []))) i;
    w7 = (word 7 (omega arith) ∙ word_back r.w7 (ap (λ (x : LabelRecord). x.w7) (kept.back []))) i;
  }

-- the label of the record that is found, or the place alone
abbrev label_or : ℕ → Option LabelRecord → List ℕ
label_or q none = single 8 q
label_or q (some r) = label_of r

remembered_find : (rs : List LabelRecord) (q : ℕ) → remembered rs q ≡ label_or q (find labelled rs q)
unfolding remembered find
remembered_find [] q = refl
remembered_find (r ∷ rs) q = go (eqb r.place q) (remembered_find rs q)
  where
    go : (t : Bool) → remembered rs q ≡ label_or q (find labelled rs q) → cond t (label_of r) (remembered rs q) ≡ label_or q (cond t (some r) (find labelled rs q))
    go true e = refl
    go false e = e

-- ---- the records of lent memory

module _ (labels : List ℕ) (words : Words labels) (long : length labels ≡ 4096) where
  -- the label that a record of lent memory gives is the one in memory
  label_same : (p : ℕ) → p < 512 → label_of (label_record labels p) ≡ label_at labels p
  unfolding label_of
  label_same p h =
      (λ i.
      at_word (8 * p) (8 * p) refl i ∷ at_word (8 * p + 1) (suc (8 * p)) (omega arith) i ∷ at_word (8 * p + 2) (suc (suc (8 * p))) (omega arith) i ∷ at_word (8 * p + 3) (suc (suc (suc (8 * p)))) (omega arith) i
      ∷ at_word (8 * p + 4) (suc (suc (suc (suc (8 * p))))) (omega arith) i ∷ at_word (8 * p + 5) (suc (suc (suc (suc (suc (8 * p)))))) (omega arith) i ∷ at_word (8 * p + 6) (suc (suc (suc (suc (suc (suc (8 * p))))))) (omega arith) i ∷ at_word (8 * p + 7) (suc (suc (suc (suc (suc (suc (suc (8 * p)))))))) (omega arith) i ∷ [])
      ∙ sym (spread_is 8 (8 * p) labels (omega arith))
    where
      at_word : (j k : ℕ) → j ≡ k → word64 (get_or labels j 0) ≡ get_or labels k 0
      at_word j k e = word_is (get_or labels j 0) (words.fits j) ∙ ap (λ (n : ℕ). get_or labels n 0) e

  record_fits : (p : ℕ) → p < 512 → other_label labels p ≡ true → label_fits (label_record labels p) ≡ true
  unfolding label_fits
  record_fits p h e = pass (lt-ltb p 512 h) (ap (λ (l : List ℕ). not (is_own p l)) (label_same p h) ∙ e)

  pub labels_kept : AllKept labels_format (labels_from labels 512 0)
  labels_kept = picked_kept labelled label_fits (other_label labels) (label_record labels) (label_kept labels words) 512 0 (omega arith)

  pub labels_good : (i : ℕ) → i < length (labels_from labels 512 0) → bad_label (labels_from labels 512 0) i ≡ false
  unfolding bad_label
  labels_good = rising_good labelled label_fits no_label (picked_rising labelled label_fits (other_label labels) (label_record labels) (λ p. refl) record_fits 512 0 (omega arith))

  -- the label that they give to a place
  remembered_is : (p : ℕ) → p < 512 → remembered (labels_from labels 512 0) p ≡ label_at labels p
  remembered_is p h =
      remembered_find (labels_from labels 512 0) p
      ∙ ap (label_or p) (picked_find labelled label_fits (other_label labels) (label_record labels) (λ p. refl) record_fits 512 0 (omega arith) p (omega arith) (omega arith))
      ∙ go (is_own p (label_at labels p)) refl
    where
      go : (t : Bool) → is_own p (label_at labels p) ≡ t → label_or p (cond (not t) (some (label_record labels p)) none) ≡ label_at labels p
      go true e = sym (same_equal (label_at labels p) (single 8 p) e)
      go false e = label_same p h

  labels_first : (n : ℕ) → labels_by (label_at labels) n ≡ take (8 * n) labels
  unfolding labels_by
  labels_first zero = refl
  labels_first (suc n) =
      let e : 8 * suc n ≡ 8 * n + 8 = omega arith in
      rw (e, take-add (8 * n) 8 labels) (ap (λ (l : List ℕ). l ++ label_at labels n) (labels_first n))

  -- the labels that are read back
  pub labels_back : labels_by (remembered (labels_from labels 512 0)) 512 ≡ labels
  labels_back = by_cong (remembered (labels_from labels 512 0)) (label_at labels) 512 (λ p h. remembered_is p h) ∙ labels_first 512 ∙ take_all 4096 labels (omega arith)

-- ---- a book's labels in lent memory

-- good records that the memory holds are those made from it
pub labels_are : (rs : List LabelRecord) → AllKept labels_format rs → ((i : ℕ) → i < length rs → bad_label rs i ≡ false)
    → labels_from (labels_by (remembered rs) 512) 512 0 ≡ rs
unfolding bad_label
labels_are rs kept good =
    picked_are labelled label_fits (other_label labels) (label_record labels) inside 512 0 rs refl rising
    (record { there = λ q l m. there q m (find labelled rs q) refl; same = λ q l m r e. same q m r e })
  where
    labels : List ℕ
    labels = labels_by (remembered rs) 512

    rising : Rising labelled label_fits 0 rs
    rising = unfold bad_label in good_rising labelled label_fits no_label rs good

    inside : (r : LabelRecord) → label_fits r ≡ true → labelled r < 512
    inside r f = unfold label_fits in ltb-true r.place 512 (both (ltb r.place 512) _ f).0

    held : (q : ℕ) → q < 512 → (o : Option LabelRecord) → find labelled rs q ≡ o → label_at labels q ≡ label_or q o
    held q m o e = label_by (remembered rs) (length_remembered rs) 512 q m ∙ remembered_find rs q ∙ ap (label_or q) e

    there : (q : ℕ) → q < 512 → (o : Option LabelRecord) → find labelled rs q ≡ o → other_label labels q ≡ found o
    there q m none e = ap (λ (l : List ℕ). not (is_own q l)) (held q m none e) ∙ ap not (same_refl (single 8 q))
    there q m (some r) e = unfold label_fits in
        let g = find_good labelled label_fits rising q r e in
        let f = both (ltb r.place 512) _ g.1 in
        ap (λ (l : List ℕ). not (is_own q l)) (held q m (some r) e) ∙ ap (λ (k : ℕ). not (is_own k (label_of r))) (sym g.0) ∙ f.1

    same : (q : ℕ) → q < 512 → (r : LabelRecord) → find labelled rs q ≡ some r → label_record labels q ≡ r
    same q m r e = record_is labels q r (find_kept labelled label_fits kept q r e) (find_good labelled label_fits rising q r e).0 (held q m (some r) e)
