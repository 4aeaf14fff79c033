-- The bytes of a book, and what the writer makes of one.
use Rattle.std.specs.Prelude.{List, [], ◌∷◌, ◌++◌, Bool, true, false, not, ℕ, zero, suc, ◌+◌, ◌*◌, ℤ, pos, length, get_or}
use Rattle.places.specs.Sets.{has}
use Rattle.places.specs.Places.{table_of, owner_of, line_of}
use Rattle.labels.specs.Labels.{label_at, is_own}
use Rattle.book.specs.Bytes.{two, four}
use Rattle.book.specs.Records.{Format, CellRecord, LabelRecord, Book, section_bytes, cells_format, regions_format, rights_format, nodes_format, programs_format, triggers_format, labels_format}
use Rattle.book.specs.Refusals.{mark}

-- a section as the trailer sees it: the bytes of each record, and their number
pub record Extent : Type 0 where
  pub size : ℕ
  pub count : ℕ

abbrev pub extent : {A : Type 0} → Format A → List A → Extent
extent f rs = record { size = f.size; count = length rs }

-- the sections whose pairs are in the trailer, and that of the label records
unfoldable pub six_extents : Book → List Extent
six_extents b =
    extent cells_format b.cells ∷ extent regions_format b.regions ∷ extent rights_format b.rights
    ∷ extent nodes_format b.nodes ∷ extent programs_format b.programs ∷ extent triggers_format b.triggers ∷ []

abbrev pub label_extents : Book → List Extent
label_extents b = extent labels_format b.labels ∷ []

-- the distance from the start of the first of these sections to the file's end: their bytes, and those behind them
unfoldable pub distance_to_end : ℕ → List Extent → ℕ
distance_to_end behind [] = behind
distance_to_end behind (x ∷ xs) = x.count * x.size + distance_to_end behind xs

-- their pairs: distance and count
unfoldable pub pairs : ℕ → List Extent → List ℕ
pairs behind [] = []
pairs behind (x ∷ xs) = two (distance_to_end behind (x ∷ xs)) ++ (two x.count ++ pairs behind xs)

-- behind the label records stand the 40 bytes of their pair and the trailer
abbrev pub behind_six : Book → ℕ
behind_six b = distance_to_end 40 (label_extents b)

abbrev pub whole_length : Book → ℕ
whole_length b = distance_to_end (behind_six b) (six_extents b)

-- the sections between the cells and the label records
unfoldable pub other_sections : Book → List ℕ
other_sections b =
    section_bytes regions_format b.regions ++ (section_bytes rights_format b.rights ++ (section_bytes nodes_format b.nodes
    ++ (section_bytes programs_format b.programs ++ section_bytes triggers_format b.triggers)))

-- the seventh pair; the mark, version 2, three zero bytes, the six pairs, and the whole length
unfoldable pub tail_bytes : Book → List ℕ
tail_bytes b =
    pairs 40 (label_extents b) ++ (mark ++ ((2 ∷ 0 ∷ 0 ∷ 0 ∷ []) ++ (pairs (behind_six b) (six_extents b) ++ four (whole_length b))))

-- the bytes of a book, as version 2
unfoldable pub encode : Book → List ℕ
encode b = section_bytes cells_format b.cells ++ (other_sections b ++ (section_bytes labels_format b.labels ++ tail_bytes b))

abbrev pub cell_record : ℕ → ℤ → CellRecord
cell_record p amount = record { table = table_of p; owner = owner_of p; line = line_of p; zero = 0; amount = amount }

-- an element that is kept or left out
abbrev pub keep : {A : Type 0} → Bool → A → List A → List A
keep true x xs = x ∷ xs
keep false x xs = xs

-- of the n places from p on, what f makes of those that it picks, places rising
unfoldable pub picked : {A : Type 0} → (ℕ → Bool) → (ℕ → A) → ℕ → ℕ → List A
picked picks f zero p = []
picked picks f (suc n) p = keep (picks p) (f p) (picked picks f n (suc p))

-- the records of the cells that are present; an amount without presence is ignored
abbrev pub cells_from : List ℤ → List ℕ → ℕ → ℕ → List CellRecord
cells_from amounts presence = picked (has presence) (λ p. cell_record p (get_or amounts p (pos 0)))

-- the record of the label of cell p
abbrev pub label_record : List ℕ → ℕ → LabelRecord
label_record labels p = record {
  place = p;
  w0 = get_or labels (8 * p) 0;
  w1 = get_or labels (8 * p + 1) 0;
  w2 = get_or labels (8 * p + 2) 0;
  w3 = get_or labels (8 * p + 3) 0;
  w4 = get_or labels (8 * p + 4) 0;
  w5 = get_or labels (8 * p + 5) 0;
  w6 = get_or labels (8 * p + 6) 0;
  w7 = get_or labels (8 * p + 7) 0;
}

-- the records of the cells, present or absent, whose label is not their own place alone
abbrev pub labels_from : List ℕ → ℕ → ℕ → List LabelRecord
labels_from labels = picked (λ p. not (is_own p (label_at labels p))) (label_record labels)

-- the book with the cells and labels of lent memory for its own
unfoldable pub with_cells : List ℤ → List ℕ → List ℕ → Book → Book
with_cells amounts presence labels b = record {
  cells = cells_from amounts presence 512 0;
  regions = b.regions;
  rights = b.rights;
  nodes = b.nodes;
  programs = b.programs;
  triggers = b.triggers;
  labels = labels_from labels 512 0;
}
