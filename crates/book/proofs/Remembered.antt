-- The labels of a book's cells at its start: each has eight words of 64 bits. Assumes nothing.
use mathlib.Core.Path.{◌≡◌, refl}
use mathlib.Core.Bool.{Bool, true, false, cond}
use mathlib.Core.List.{List, [], ◌∷◌}
use Prim.Native.Nat.{ℕ, zero, suc, ◌^◌, ◌<◌}
use native.Mathlib.Omega.{arith}
use lib.Dec.{eqb}
use lib.ListN.{length, get_or}
use Rattle.places.specs.Sets.{Words, single}
use Rattle.places.proofs.Sets.{length_single, words_set_of}
use Rattle.book.specs.Records.{LabelRecord, word64, label_of}
use Rattle.book.specs.Start.{remembered}

-- of one of two lists
length_cond : (x : Bool) (a b : List ℕ) {n : ℕ} → length a ≡ n → length b ≡ n → length (cond x a b) ≡ n
length_cond true a b p q = p
length_cond false a b p q = q

pub length_remembered : (rs : List LabelRecord) (p : ℕ) → length (remembered rs p) ≡ 8
unfolding remembered label_of
length_remembered [] p = length_single 8 p
length_remembered (r ∷ rs) p = length_cond (eqb r.place p) (label_of r) (remembered rs p) refl (length_remembered rs p)

-- ---- words of 64 bits

words_none : Words []
words_none = record { fits = λ w. omega arith }

words_more : {x : ℕ} {s : List ℕ} → x < 2 ^ 64 → Words s → Words (x ∷ s)
words_more {x} {s} h l = record { fits = go }
  where
    go : (w : ℕ) → get_or (x ∷ s) w 0 < 2 ^ 64
    go zero = h
    go (suc w) = l.fits w

fits_64 : (n : ℕ) → word64 n < 2 ^ 64
fits_64 n = omega arith

words_label : (r : LabelRecord) → Words (label_of r)
unfolding label_of
words_label r =
    words_more (fits_64 r.w0) (words_more (fits_64 r.w1) (words_more (fits_64 r.w2) (words_more (fits_64 r.w3)
    (words_more (fits_64 r.w4) (words_more (fits_64 r.w5) (words_more (fits_64 r.w6) (words_more (fits_64 r.w7) words_none)))))))

words_cond : (x : Bool) (a b : List ℕ) → Words a → Words b → Words (cond x a b)
words_cond true a b p q = p
words_cond false a b p q = q

pub words_remembered : (rs : List LabelRecord) (p : ℕ) → Words (remembered rs p)
unfolding remembered single
words_remembered [] p = words_set_of 8 (λ q. eqb q p)
words_remembered (r ∷ rs) p = words_cond (eqb r.place p) (label_of r) (remembered rs p) (words_label r) (words_remembered rs p)
