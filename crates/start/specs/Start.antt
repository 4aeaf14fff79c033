-- The script and the sets of a run at its start.
use Rattle.std.specs.Prelude.{◌≡◌, List, true, ℕ, ◌+◌, ◌*◌, ◌<◌, length, take, drop}
use Rattle.book.specs.Bytes.{le32}
use Rattle.book.specs.Records.{LabelRecord, Book}
use Rattle.book.specs.Kinds.{cost_of}
use Rattle.book.specs.Layout.{count, section}
use Rattle.book.specs.Start.{remembered, public_set, read_sets, write_sets}
use Rattle.machine.specs.Script.{prices_start, held_count}
use Rattle.machine.specs.Store.{row_at, idle}
use Rattle.machine.specs.declared.lent.Sets.{Sets}

-- the first n bytes are what they were
pub record Stays (n : ℕ) (old new : List ℕ) : Type 0 where
  pub is : take n new ≡ take n old

-- the records of section i of a file, `size` bytes each, stand at byte `at` of a script
abbrev pub Part : List ℕ → ℕ → ℕ → ℕ → List ℕ → Type 0
Part file i size at code = take (size * count file i) (drop at code) ≡ take (size * count file i) (drop (section file i).start file)

-- the script has the price of each kind, and how many records each section of the file has
abbrev pub Prices : List ℕ → Type 0
Prices code = (kind : ℕ) → kind < 27 → le32 code (prices_start + 4 * kind) ≡ cost_of kind

abbrev pub Counts : List ℕ → List ℕ → Type 0
Counts file code = (i : ℕ) → i < 5 → held_count code i ≡ count file (i + 1)

-- the cells that are present, the rights of the book's records, for each cell the label that the label records give it, and no posting under way
pub record SetsOf (b : Book) (records : List LabelRecord) (present : List ℕ) (sets : Sets) : Type 0 where
  pub long : length sets.labels ≡ 512
  pub present_is : sets.present ≡ present
  pub public_is : sets.public ≡ public_set b
  pub read_are : sets.read ≡ read_sets b
  pub write_are : sets.write ≡ write_sets b
  pub labels_are : (place : ℕ) → place < 512 → row_at sets.labels place ≡ remembered records place
  pub idles : idle sets ≡ true
