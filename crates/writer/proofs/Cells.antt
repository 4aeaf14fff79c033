-- Cell records: those of an accepted file, and those made from lent memory. Assumes nothing.
use mathlib.Core.Path.{◌≡◌, refl, sym, ap, ap₂, ◌∙◌}
use mathlib.Core.List.{List, [], ◌∷◌}
use mathlib.Core.Bool.{Bool, true, false, cond}
use mathlib.Core.Option.{Option, none, some}
use Prim.Native.Nat.{ℕ, ◌<◌}
use native.Mathlib.Omega.{arith}
use lib.Dec.{eqb}
use lib.IntN.{ℤ, pos}
use lib.ListN.{length, get_or}
use borrow.Author.Tests.{le-leb}
use mir.Syntax.{w32}
use mir.Val.{SFits}
use mir.ValLaws.{to_z-of_z, of_z_fits}
use Rattle.places.specs.Sets.{has}
use Rattle.places.specs.Places.{table_of, owner_of, line_of}
use Rattle.places.proofs.Places.{table_of_place, owner_of_place, line_of_place, place_of_key}
use Rattle.book.specs.Bytes.{signed32, bits32}
use Rattle.book.specs.Records.{CellRecord, place_of, cells_format}
use Rattle.book.specs.Refusals.{no_cell, cell_fits, bad_cell}
use Rattle.book.specs.Start.{amount_at, or_zero, is_there}
use Rattle.book.specs.Encode.{cell_record, cells_from}
use Rattle.book.proofs.Chains.{pass}
use Rattle.loader.proofs.Accepted.{Key, cell_key, place_lt}
use Rattle.encoder.proofs.Codec.{Kept, AllKept, four_back}
use Rattle.encoder.proofs.Writes.{here}
use Rattle.writer.specs.Claims.{Amounts}
use Rattle.writer.proofs.Rising.{Rising, find, found, good_rising, rising_good, find_good, picked_kept, picked_rising, picked_find, picked_are}

-- a cell record is made of its place and its amount
record_is : {c : CellRecord} → Key c → cell_record (place_of c) c.amount ≡ c
record_is {c} k i = record {
  table = table_of_place c.table c.owner c.line (omega arith) (omega arith) i;
  owner = owner_of_place c.table c.owner c.line (omega arith) (omega arith) i;
  line = line_of_place c.table c.owner c.line (omega arith) (omega arith) i;
  zero = sym k.zero i;
  amount = c.amount;
}

record_fits : (p : ℕ) (z : ℤ) → p < 512 → cell_fits (cell_record p z) ≡ true
unfolding cell_fits
record_fits p z h = pass (le-leb (table_of p) 7 (omega arith)) (pass (le-leb (owner_of p) 7 (omega arith)) (pass (le-leb (line_of p) 7 (omega arith)) refl))

-- what is written of a cell is read back
cell_kept : (p : ℕ) (z : ℤ) → SFits w32 z → Kept cells_format (cell_record p z)
unfolding cells_format
cell_kept p z f = record {
  back = λ rest i. record { table = table_of p; owner = owner_of p; line = line_of p; zero = 0; amount = (ap signed32 (four_back (bits32 z) (of_z_fits w32 z f).fits) ∙ to_z-of_z w32 z f) i };
}

-- the amount of the record that is found
abbrev amount_of : Option CellRecord → Option ℤ
amount_of none = none
amount_of (some c) = some c.amount

pub amount_find : (cs : List CellRecord) (q : ℕ) → amount_at cs q ≡ amount_of (find place_of cs q)
unfolding amount_at find
amount_find [] q = refl
amount_find (c ∷ cs) q = go (eqb (place_of c) q) (amount_find cs q)
  where
    go : (t : Bool) → amount_at cs q ≡ amount_of (find place_of cs q) → cond t (some c.amount) (amount_at cs q) ≡ amount_of (cond t (some c) (find place_of cs q))
    go true e = refl
    go false e = e

-- ---- the records of lent memory

module _ (amounts : List ℤ) (presence : List ℕ) where
  -- they are read back as they are written
  pub cells_kept : Amounts amounts → AllKept cells_format (cells_from amounts presence 512 0)
  cells_kept fit = picked_kept place_of cell_fits (has presence) (here amounts) (λ p h. cell_kept p (get_or amounts p (pos 0)) (fit.fits p)) 512 0 (omega arith)

  -- none is bad
  pub cells_good : (i : ℕ) → i < length (cells_from amounts presence 512 0) → bad_cell (cells_from amounts presence 512 0) i ≡ false
  unfolding bad_cell
  cells_good =
      rising_good place_of cell_fits no_cell
      (picked_rising place_of cell_fits (has presence) (here amounts) (λ p. place_of_key p) (λ p h t. record_fits p _ h) 512 0 (omega arith))

  -- the amount that they give to a place
  pub cells_amount : (q : ℕ) → q < 512 → amount_at (cells_from amounts presence 512 0) q ≡ cond (has presence q) (some (get_or amounts q (pos 0))) none
  cells_amount q h =
      amount_find (cells_from amounts presence 512 0) q
      ∙ ap amount_of (picked_find place_of cell_fits (has presence) (here amounts) (λ p. place_of_key p) (λ p h t. record_fits p _ h) 512 0 (omega arith) q (omega arith) (omega arith))
      ∙ go (has presence q)
    where
      go : (t : Bool) → amount_of (cond t (some (here amounts q)) none) ≡ cond t (some (get_or amounts q (pos 0))) none
      go true = refl
      go false = refl

  -- good records that the memory holds are those made from it
  pub cells_are : (cs : List CellRecord) → ((i : ℕ) → i < length cs → bad_cell cs i ≡ false)
      → ((q : ℕ) → q < 512 → has presence q ≡ is_there (amount_at cs q)) → ((q : ℕ) → q < 512 → get_or amounts q (pos 0) ≡ or_zero (amount_at cs q))
      → cells_from amounts presence 512 0 ≡ cs
  unfolding bad_cell
  cells_are cs good there amount =
      picked_are place_of cell_fits (has presence) (here amounts) (λ c f. place_lt (cell_key f)) 512 0 cs refl rising
      (record { there = λ q l m. there q m ∙ ap is_there (amount_find cs q) ∙ told (find place_of cs q); same = λ q l m c e. same q m c e })
    where
      rising : Rising place_of cell_fits 0 cs
      rising = unfold bad_cell in good_rising place_of cell_fits no_cell cs good

      told : (o : Option CellRecord) → is_there (amount_of o) ≡ found o
      told none = refl
      told (some c) = refl

      same : (q : ℕ) → q < 512 → (c : CellRecord) → find place_of cs q ≡ some c → here amounts q ≡ c
      same q m c e =
          let g = find_good place_of cell_fits rising q c e in
          let z : get_or amounts q (pos 0) ≡ c.amount = amount q m ∙ ap or_zero (amount_find cs q ∙ ap amount_of e) in
          ap₂ cell_record (sym g.0) z ∙ record_is (cell_key g.1)
