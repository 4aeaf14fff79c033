-- The memory lent for the cells of a book, and its start state: its cells and their labels, and the public, read and write sets.
use Rattle.std.specs.Prelude.{◌≡◌, List, [], ◌∷◌, ◌++◌, Bool, true, false, ◌&&◌, ◌||◌, cond, ℕ, zero, suc, eqb, ℤ, pos, length, get_or}
use Rattle.std.proofs.Math.Option.{Option, none, some}
use Rattle.places.specs.Sets.{set_of, single}
use Rattle.regions.specs.Regions.{in_region}
use Rattle.labels.specs.Labels.{labels_by}
use Rattle.book.specs.Records.{CellRecord, RightRecord, LabelRecord, Book, place_of, region_of, label_of}
use Rattle.book.specs.Refusals.{no_region}

-- lent memory for the cells: 512 amounts, 8 presence words, 4,096 label words
pub record Lengths (amounts : List ℤ) (presence labels : List ℕ) : Type 0 where
  pub amounts_are : length amounts ≡ 512
  pub presence_is : length presence ≡ 8
  pub labels_are : length labels ≡ 4096

-- f 0, f 1 and so on, n of them
unfoldable pub tabulate : {A : Type 0} → (ℕ → A) → ℕ → List A
tabulate f zero = []
tabulate f (suc n) = tabulate f n ++ (f n ∷ [])

-- the amount of the record with place p, if there is one
unfoldable pub amount_at : List CellRecord → ℕ → Option ℤ
amount_at [] p = none
amount_at (c ∷ cs) p = cond (eqb (place_of c) p) (some c.amount) (amount_at cs p)

abbrev pub or_zero : Option ℤ → ℤ
or_zero none = pos 0
or_zero (some z) = z

abbrev pub is_there : Option ℤ → Bool
is_there none = false
is_there (some z) = true

-- the 512 amounts, 0 where a cell is absent
unfoldable pub start_amounts : Book → List ℤ
start_amounts b = tabulate (λ p. or_zero (amount_at b.cells p)) 512

-- the presence words
unfoldable pub start_presence : Book → List ℕ
start_presence b = set_of 8 (λ p. is_there (amount_at b.cells p))

-- the label of the record with place p; where there is none, p alone
unfoldable pub remembered : List LabelRecord → ℕ → List ℕ
remembered [] p = single 8 p
remembered (r ∷ rs) p = cond (eqb r.place p) (label_of r) (remembered rs p)

-- the label words
unfoldable pub start_labels : Book → List ℕ
start_labels b = labels_by (remembered b.labels) 512

-- whether one of the rights records of this kind and user names a region that holds p
unfoldable pub rights_hold : Book → ℕ → ℕ → List RightRecord → ℕ → Bool
rights_hold b kind user [] p = false
rights_hold b kind user (r ∷ rs) p =
    ((eqb r.kind kind && eqb r.user user) && in_region (region_of (get_or b.regions r.region no_region)) p) || rights_hold b kind user rs p

-- the places of all regions in the rights records of this kind for this user
unfoldable pub right_set : Book → ℕ → ℕ → List ℕ
right_set b kind user = set_of 8 (rights_hold b kind user b.rights)

-- the public set, and the read and write sets of the eight users
abbrev pub public_set : Book → List ℕ
public_set b = right_set b 0 0

abbrev pub read_sets : Book → List (List ℕ)
read_sets b = tabulate (right_set b 1) 8

abbrev pub write_sets : Book → List (List ℕ)
write_sets b = tabulate (right_set b 2) 8
