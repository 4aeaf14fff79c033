-- Cell records that fit or not, and whose places rise or not. Assumes nothing.
use mathlib.Core.Path.{◌≡◌}
use mathlib.Core.Bool.{true, false}
use mathlib.Core.List.{List}
use Prim.Native.Nat.{ℕ, ◌≤◌, ◌<◌}
use lib.ListN.{get_or}
use borrow.Author.Tests.{le-leb, lt-leb}
use Rattle.book.specs.Records.{CellRecord, place_of}
use Rattle.book.specs.Refusals.{cell_fits, no_cell, bad_cell}
use Rattle.book.proofs.Least.{least_at, rises_least}

-- the least place that cell i may have
abbrev pub least_cell : List CellRecord → ℕ → ℕ
least_cell = least_at place_of no_cell

module _ (cells : List CellRecord) (i : ℕ) {x : CellRecord} (e : get_or cells i no_cell ≡ x) where
  pub unfit_cell : cell_fits x ≡ false → bad_cell cells i ≡ true
  unfolding bad_cell
  unfit_cell h = rw (e, h)

  pub fallen_cell : cell_fits x ≡ true → place_of x < least_cell cells i → bad_cell cells i ≡ true
  unfolding bad_cell
  fallen_cell h l = rw (rises_least place_of no_cell cells i, e, h, lt-leb (least_cell cells i) (place_of x) l)

  pub good_cell : cell_fits x ≡ true → least_cell cells i ≤ place_of x → bad_cell cells i ≡ false
  unfolding bad_cell
  good_cell h l = rw (rises_least place_of no_cell cells i, e, h, le-leb (least_cell cells i) (place_of x) l)
