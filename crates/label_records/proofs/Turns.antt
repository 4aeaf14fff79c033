-- A loop over the label records of an accepted book, from the last to the first: the label that each record gives, and those behind it. Assumes nothing.
use mathlib.Core.Path.{◌≡◌, refl, ap, ◌∙◌}
use mathlib.Core.Bool.{true, cond}
use mathlib.Core.List.{List, [], ◌∷◌}
use Prim.Native.Nat.{ℕ, suc, ◌+◌, ◌-◌, ◌*◌, ◌≤◌, ◌<◌}
use native.Mathlib.Omega.{arith}
use lib.Dec.{eqb, ltb}
use lib.ListN.{length, get_or, drop, drop_of_length-le}
use lib.Seq.{drop-cons}
use borrow.Author.Tests.{ltb-true, not-false}
use Rattle.places.specs.Sets.{single}
use Rattle.book.specs.Records.{LabelRecord, label_of, labels_format}
use Rattle.book.specs.Layout.{label_section, decode}
use Rattle.book.specs.Refusals.{no_label, label_fits, bad_label, Laid, verdict}
use Rattle.book.specs.Start.{remembered}
use Rattle.book.specs.declared.Section.{Section}
use Rattle.std.specs.Prelude.{Ok}
use Rattle.book.proofs.Accepted.{accepted, placed, labels_inside}
use Rattle.book.proofs.Chains.{both}
use Rattle.book.proofs.Decoded.{count_labels, label_read}

-- the labels that the records from number i on give
abbrev pub remembered_from : List ℕ → ℕ → ℕ → List ℕ
remembered_from s i = remembered (drop i (decode s).labels)

-- where the loop stands: the records from number i on are read
pub record Reading (s : List ℕ) (start i : ℕ) : Type 0 where
  pub starts : start ≡ (label_section s).start
  pub inside : start + (label_section s).count * 66 ≤ length s
  pub upto : i ≤ (label_section s).count

module _ (s : List ℕ) (v : verdict s ≡ Ok tt) where
  pub laid_out : Laid s
  laid_out = record { length_ok = (accepted s v).length_ok; sections_ok = (accepted s v).sections_ok }

  pub reading_begins : {x : Section} → x ≡ label_section s → Reading s x.start x.count
  reading_begins e = rw e (record { starts = refl; inside = labels_inside (placed s v); upto = omega arith })

  -- no record is read
  pub remembered_none : {x : Section} → x ≡ label_section s → (p : ℕ) → single 8 p ≡ remembered_from s x.count p
  unfolding remembered
  remembered_none e p =
      let none : drop (label_section s).count (decode s).labels ≡ [] = drop_of_length-le (decode s).labels {i = (label_section s).count} (omega (arith, count_labels s)) in
      rw (e, none)

  -- the record before those that are read
  module _ {start i : ℕ} (r : Reading s start i) (h : 0 < i) where
    abbrev here : LabelRecord
    here = labels_format.read s (start + (i - 1) * 66)

    pub reading_turn : Reading s start (i - 1)
    reading_turn = record { starts = r.starts; inside = r.inside; upto = omega (arith, r.upto) }

    at_turn : (d : LabelRecord) → get_or (decode s).labels (i - 1) d ≡ here
    at_turn d = label_read s (i - 1) d (omega (arith, r.upto)) ∙ rw r.starts

    -- its bytes lie in the file
    pub turn_inside : start + (i - 1) * 66 + 66 ≤ length s
    turn_inside = omega (arith, r.inside, r.upto)

    -- its place is one of the 512
    pub turn_place : here.place < 512
    unfolding bad_label label_fits
    turn_place =
        let good = both (label_fits (get_or (decode s).labels (i - 1) no_label)) _ (not-false _ ((accepted s v).labels_ok (i - 1) (omega (arith, r.upto)))) in
        let near : ltb (get_or (decode s).labels (i - 1) no_label).place 512 ≡ true = (both _ _ good.0).0 in
        ltb-true _ _ (rw (at_turn no_label) at near)

    pub remembered_turn : (p : ℕ) → remembered_from s (i - 1) p ≡ cond (eqb here.place p) (label_of here) (remembered_from s i p)
    unfolding remembered
    remembered_turn p =
        let n : suc (i - 1) ≡ i = omega arith in
        let more : drop (i - 1) (decode s).labels ≡ here ∷ drop i (decode s).labels =
        drop-cons (decode s).labels (i - 1) no_label (omega (arith, count_labels s, r.upto)) ∙ rw (n, at_turn no_label) in
        ap (λ (rs : List LabelRecord). remembered rs p) more

  -- all are read
  pub remembered_all : {i : ℕ} → i ≤ 0 → (p : ℕ) → remembered_from s i p ≡ remembered (decode s).labels p
  remembered_all {i} h p =
      let e : i ≡ 0 = omega arith in
      rw e
