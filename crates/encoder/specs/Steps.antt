-- What the contract of a step speaks of.
use Rattle.std.specs.Prelude.{List, [], ◌∷◌, ◌++◌, ℕ}
use Rattle.book.specs.Bytes.{four}
use Rattle.book.specs.Layout.{count}
use Rattle.book.specs.Refusals.{mark}
use Rattle.book.specs.Encode.{Extent, distance_to_end, pairs}

abbrev pub sized : ℕ → ℕ → Extent
sized size count = record { size = size; count = count }

-- the sections from the cells to the triggers of a book with `cells` cells, whose other records are those of the file
abbrev pub six_like : (file : List ℕ) (cells : ℕ) → List Extent
six_like file cells =
    sized 8 cells ∷ sized 8 (count file 1) ∷ sized 4 (count file 2) ∷ sized 16 (count file 3) ∷ sized 4 (count file 4) ∷ sized 8 (count file 5) ∷ []

-- what stands behind the label records of a book with these sections and this many label records
abbrev pub tail_with : (six : List Extent) (labels : ℕ) → List ℕ
tail_with six labels =
    let seventh : List Extent = sized 66 labels ∷ [] in
    let behind : ℕ = distance_to_end 40 seventh in
    pairs 40 seventh ++ (mark ++ ((2 ∷ 0 ∷ 0 ∷ 0 ∷ []) ++ (pairs behind six ++ four (distance_to_end behind six))))
