-- Regions (the paper's symbolic tuples) and their sets of places.
use Rattle.std.specs.Prelude.{List, Bool, ◌&&◌, cond, ℕ, zero, suc, ◌+◌, ◌*◌, ◌^◌, leb, eqb}
use Rattle.regions.specs.declared.Range.{Range}
use Rattle.regions.specs.declared.Region.{Region}
use Rattle.places.specs.Places.{table_of, owner_of, line_of}
use Rattle.places.specs.Sets.{set_of}

-- both ends count; first above last is the empty range
abbrev pub in_range : Range → ℕ → Bool
in_range r n = leb r.first n && leb n r.last

-- whether a region holds place p
unfoldable pub in_region : Region → ℕ → Bool
in_region r p = eqb (table_of p) r.table && (in_range r.owners (owner_of p) && in_range r.lines (line_of p))

-- a region's places, in n words
unfoldable pub region_set : ℕ → Region → List ℕ
region_set n r = set_of n (in_region r)

-- `pattern` once in every `width` bits, at the positions below n that lie in a range
unfoldable pub repeated : ℕ → ℕ → Range → ℕ → ℕ
repeated pattern width range zero = 0
repeated pattern width range (suc i) = repeated pattern width range i + cond (in_range range i) (pattern * 2 ^ (width * i)) 0
