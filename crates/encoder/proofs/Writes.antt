-- The records of the places that are picked, and writing them: one place more. Stated once for a format; then what is picked of lent
-- memory. Assumes nothing.
use mathlib.Core.Path.{◌≡◌, refl, sym, ap, ◌∙◌}
use mathlib.Core.List.{List, [], ◌∷◌, ◌++◌, append-nil, append_assoc}
use mathlib.Core.Bool.{Bool, true, false, not}
use Prim.Native.Nat.{ℕ, zero, suc, ◌+◌, ◌*◌, ◌≤◌, ◌<◌}
use native.Mathlib.Nat.{zero-add, add-zero, mul-le-mul_right}
use native.Mathlib.Numerals.{add-one}
use native.Mathlib.Omega.{arith}
use lib.IntN.{ℤ, pos}
use lib.ListN.{length, get_or, take, drop}
use Rattle.labels.specs.Labels.{label_at, is_own}
use Rattle.book.specs.Records.{CellRecord, Format, section_bytes, cells_format, labels_format}
use Rattle.book.specs.Encode.{cell_record, keep, picked, cells_from, labels_from}
use Rattle.encoder.proofs.Codec.{Codec, length_section}
use Rattle.encoder.proofs.Stores.{Begun, begun_none, begun_is, begun_more}

section_append : {A : Type 0} (f : Format A) (xs ys : List A) → section_bytes f (xs ++ ys) ≡ section_bytes f xs ++ section_bytes f ys
unfolding section_bytes
section_append f [] ys = refl
section_append f (x ∷ xs) ys = ap (λ (l : List ℕ). f.write x ++ l) (section_append f xs ys) ∙ sym (append_assoc (f.write x) (section_bytes f xs) (section_bytes f ys))

-- ---- what is picked

module _ {A : Type 0} (picks : ℕ → Bool) (g : ℕ → A) where
  pub picked_few : (n p : ℕ) → length (picked picks g n p) ≤ n
  unfolding picked
  picked_few zero p = omega arith
  picked_few (suc n) p = go (picks p) (picked_few n (suc p))
    where
      go : (t : Bool) → length (picked picks g n (suc p)) ≤ n → length (keep t (g p) (picked picks g n (suc p))) ≤ suc n
      go true h = omega arith
      go false h = omega arith

  -- one place more
  pub picked_turn : (n p : ℕ) → picked picks g (n + 1) p ≡ picked picks g n p ++ keep (picks (p + n)) (g (p + n)) []
  unfolding picked
  picked_turn n p = rw (add-one n) (go n p)
    where
      kept : (t : Bool) (c : A) (x y : List A) → keep t c (x ++ y) ≡ keep t c x ++ y
      kept true c x y = refl
      kept false c x y = refl

      go : (n p : ℕ) → picked picks g (suc n) p ≡ picked picks g n p ++ keep (picks (p + n)) (g (p + n)) []
      go zero p = rw (add-zero p)
      go (suc n) p =
          let e : p + suc n ≡ suc p + n = omega arith in
          rw e (ap (keep (picks p) (g p)) (go n (suc p)) ∙ kept (picks p) (g p) (picked picks g n (suc p)) _)

-- ---- the bytes that are written of it

module _ {A : Type 0} {f : Format A} (codec : Codec f) (picks : ℕ → Bool) (g : ℕ → A) where
  -- those of the places below n
  abbrev bytes : ℕ → List ℕ
  bytes n = section_bytes f (picked picks g n 0)

  -- they are written from byte `at` up to byte `end`
  pub record Writing (old : List ℕ) (at : ℕ) (out : List ℕ) (end place : ℕ) : Type 0 where
    pub upto : place ≤ 512
    pub written : Begun old at end (bytes place) out

  pub writing_none : (old : List ℕ) (at : ℕ) → at ≤ length old → Writing old at old at 0
  unfolding picked section_bytes
  writing_none old at h = record { upto = omega arith; written = begun_none old at h }

  pub end_small : {old out : List ℕ} {at end place : ℕ} → Writing old at out end place → end ≤ at + place * f.size
  end_small {place = place} w =
      let few = mul-le-mul_right f.size (picked_few picks g place 0) in
      omega (arith, w.written.end_is, length_section codec (picked picks g place 0), few)

  module _ {old out : List ℕ} {at end place : ℕ} (w : Writing old at out end place) (h : place < 512) where
    turn : bytes (place + 1) ≡ bytes place ++ section_bytes f (keep (picks place) (g place) [])
    turn = rw (picked_turn picks g place 0, zero-add place) (section_append f (picked picks g place 0) _)

    pub writing_past : picks place ≡ false → Writing old at out end (place + 1)
    unfolding section_bytes
    writing_past e =
        let same : bytes (place + 1) ≡ bytes place = turn ∙ rw e (append-nil (bytes place)) in
        record { upto = omega arith; written = rw same w.written }

    pub writing_more : (out' : List ℕ) (to : ℕ) → picks place ≡ true → end + f.size ≡ to → to ≤ length old
        → out' ≡ take end out ++ f.write (g place) ++ drop (end + f.size) out
        → Writing old at out' to (place + 1)
    unfolding section_bytes
    writing_more out' to e t room q =
        let more : bytes (place + 1) ≡ bytes place ++ f.write (g place) = turn ∙ rw (e, append-nil (f.write (g place))) in
        record { upto = omega arith; written = rw more (begun_more w.written _ out' f.size to (codec.width (g place)) t room q) }

  pub writing_done : {old out : List ℕ} {at end place : ℕ} → Writing old at out end place → 512 ≤ place
      → (end ≡ at + length (bytes 512)) × (out ≡ take at old ++ bytes 512 ++ drop end old)
  writing_done {old} {out} {at} {end} {place} w h =
      let e : place ≡ 512 = omega (arith, w.upto) in
      begun_is (rw e at w.written)

-- ---- the records of lent memory

-- the record of the cell at place p
abbrev pub here : List ℤ → ℕ → CellRecord
here amounts p = cell_record p (get_or amounts p (pos 0))

-- whether the label of cell p is not its own place alone
abbrev pub other_label : List ℕ → ℕ → Bool
other_label labels p = not (is_own p (label_at labels p))

-- the bytes of the present cells below place n, and of the labels that are not their own place alone
abbrev pub cells_below : List ℤ → List ℕ → ℕ → List ℕ
cells_below amounts presence n = section_bytes cells_format (cells_from amounts presence n 0)

abbrev pub labels_below : List ℕ → ℕ → List ℕ
labels_below labels n = section_bytes labels_format (labels_from labels n 0)
