-- What acceptance tells of the cells that the code reads. Assumes nothing.
use mathlib.Core.Path.{◌≡◌}
use mathlib.Core.List.{List}
use mathlib.Core.Bool.{true}
use Prim.Native.Nat.{ℕ, ◌+◌, ◌*◌, ◌≤◌, ◌<◌}
use native.Mathlib.Omega.{arith}
use lib.Dec.{leb}
use lib.ListN.{get_or}
use borrow.Author.Tests.{leb-true, eqb-true, not-false}
use Rattle.book.specs.Records.{CellRecord, place_of, cells_format}
use Rattle.book.specs.Layout.{count, section, decode}
use Rattle.book.specs.Refusals.{cell_fits, no_cell, bad_cell, verdict}
use Rattle.std.specs.Prelude.{Ok}
use Rattle.book.proofs.Chains.{both}
use Rattle.book.proofs.Decoded.{cell_read}
use Rattle.book.proofs.Accepted.{accepted}

-- what the check of one cell record tells
pub record Key (c : CellRecord) : Type 0 where
  pub table : c.table ≤ 7
  pub owner : c.owner ≤ 7
  pub line : c.line ≤ 7
  pub zero : c.zero ≡ 0

pub cell_key : {c : CellRecord} → cell_fits c ≡ true → Key c
unfolding cell_fits
cell_key {c} e =
    let table = both (leb c.table 7) _ e in
    let owner = both (leb c.owner 7) _ table.1 in
    let line = both (leb c.line 7) _ owner.1 in record {
      table = leb-true _ _ table.0;
      owner = leb-true _ _ owner.0;
      line = leb-true _ _ line.0;
      zero = eqb-true _ _ line.1;
    }

pub place_lt : {c : CellRecord} → Key c → place_of c < 512
place_lt k = omega arith

module _ (s : List ℕ) (v : verdict s ≡ Ok tt) where
  -- the place of a record is one of the 512
  pub place_inside : (i : ℕ) → i < count s 0 → place_of (cells_format.read s ((section s 0).start + i * 8)) < 512
  unfolding bad_cell
  place_inside i h =
      let e = both (cell_fits (get_or (decode s).cells i no_cell)) _ (not-false _ ((accepted s v).cells_ok i h)) in
      place_lt (cell_key (rw (cell_read s i no_cell h) at e.0))
