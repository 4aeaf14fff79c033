-- The terms of "Two books side by side": groups, reach, inside and outside, group traces, and two books that differ outside a reach.
use Rattle.std.specs.Prelude.{◌≡◌, List, [], ◌∷◌, ◌++◌, ◌⊎◌, Bool, true, false, ◌&&◌, ◌||◌, cond, ℕ, zero, suc, ◌<◌, eqb}
use Rattle.places.specs.Sets.{union, Within}
use Rattle.book.specs.Bytes.{byte}
use Rattle.book.specs.Kinds.{between}
use Rattle.book.specs.Records.{Book, SameScripts}
use Rattle.book.specs.Layout.{decode}
use Rattle.book.specs.Start.{public_set, read_sets}
use Rattle.monitor.specs.Labelled.{Label, bottom, Lab}
use Rattle.monitor.specs.Run.{Cell}
use Rattle.monitor.specs.Rules.{region_places}
use Rattle.monitor.specs.Call.{Memory, Result, trace_records, cells_of, start_cells, rows}
use Rattle.monitor.specs.declared.Answer.{Answer}
use Rattle.monitor.specs.declared.Answer.TheVariants.{Refused, Stopped, Finished}

-- a group: any set of users
abbrev pub Group : Type 0
Group = ℕ → Bool

-- a book is accepted if its run answers none of the refusals, and a run finishes if it meets no stop
unfoldable pub accepted : Answer → Bool
accepted (Refused refusal) = false
accepted (Stopped number node cost bytes) = true
accepted (Finished cost bytes) = true

unfoldable pub finished : Answer → Bool
finished (Refused refusal) = false
finished (Stopped number node cost bytes) = false
finished (Finished cost bytes) = true

-- ---- traces, as the calls leave them in lent memory

-- out records to members, and all records of kinds 2 to 5
unfoldable pub visible : Group → List ℕ → Bool
visible g r = (eqb (byte r 0) 1 && g (byte r 1)) || between 2 5 (byte r 0)

unfoldable pub visible_in : Group → List (List ℕ) → List (List ℕ)
visible_in g [] = []
visible_in g (r ∷ rs) =
    let rest = visible_in g rs in
    elim (visible g r) [ true ↦ r ∷ rest | false ↦ rest ]

-- the group's trace
unfoldable pub group_trace : Group → Result → List (List ℕ)
group_trace g r = visible_in g (trace_records r)

-- one begins the other if it is the other's first records, none and all included
pub record Begins (x y : List (List ℕ)) : Type 0 where
  pub rest : List (List ℕ)
  pub is : x ++ rest ≡ y

-- ---- the reach

-- the read sets at the start of those members among the first n users
unfoldable pub members_read : Group → Book → ℕ → Label
members_read g b zero = bottom
members_read g b (suc n) = union (members_read g b n) (cond (g n) (rows (read_sets b) n) bottom)

-- the region of every read grant to a member that was carried out: each has written a record of kind 2
unfoldable pub granted_to : Group → Book → List (List ℕ) → Label
granted_to g b [] = bottom
granted_to g b (r ∷ rs) = union (cond (eqb (byte r 0) 2 && g (byte r 1)) (region_places b (byte r 2)) bottom) (granted_to g b rs)

-- the reach of a group in the first book's run: the public set, each member's read set at the start, and those grants
unfoldable pub reach : Group → List ℕ → Result → Label
reach g file r =
    let b : Book = decode file in
    union (public_set b) (union (members_read g b 8) (granted_to g b (trace_records r)))

-- ---- inside and outside

-- in one of two, the cell's label lies inside the reach
abbrev pub InsideEither : Label → Lab Cell → Lab Cell → Type 0
InsideEither reach x y = Within x.lab reach ⊎ Within y.lab reach

-- two families of 512 cells are the same, presence, amount and label, wherever one is inside the reach
pub record SameInside (reach : Label) (x y : ℕ → Lab Cell) : Type 0 where
  pub same : (q : ℕ) → q < 512 → InsideEither reach (x q) (y q) → x q ≡ y q

-- two books differ only in cells outside the reach
pub record DifferOutside (reach : Label) (file file' : List ℕ) : Type 0 where
  pub scripts : SameScripts (decode file) (decode file')
  pub cells : SameInside reach (start_cells (decode file)) (start_cells (decode file'))

-- the cells that a call leaves in lent memory
abbrev pub cells_in : Memory → ℕ → Lab Cell
cells_in m = cells_of m.amounts m.presence m.labels
