-- The trailer: where the sections start, and how many records each has.
use Rattle.std.specs.Prelude.{List, [], ◌∷◌, ◌++◌, Bool, ◌&&◌, cond, ℕ, suc, ◌+◌, ◌-◌, ◌*◌, eqb, leb, length}
use Rattle.book.specs.Bytes.{byte, le16}
use Rattle.book.specs.Records.{Format, records, Book, cells_format, regions_format, rights_format, nodes_format, programs_format, triggers_format, labels_format}
use Rattle.book.specs.declared.Section.{Section}

-- the first byte of the trailer, which is the file's last 36 bytes
abbrev pub trailer : List ℕ → ℕ
trailer s = length s - 36

-- the version, 1 or 2
abbrev pub version : List ℕ → ℕ
version s = byte s (trailer s + 4)

-- whether there is a seventh section, of label records: version 2 has it (02, Change 5)
abbrev pub remembers : List ℕ → Bool
remembers s = eqb (version s) 2

-- the bytes behind the sections: the trailer, and in version 2 the seventh pair just before it
abbrev pub tail_size : List ℕ → ℕ
tail_size s = cond (remembers s) 40 36

-- where the pair of section i stands
abbrev pub pair_start : List ℕ → ℕ → ℕ
pair_start s i = cond (eqb i 6) (length s - 40) (trailer s + 8 + 4 * i)

-- of section i, in the order of the paper's table: the distance back from the file's end to its start, and its count
abbrev pub distance : List ℕ → ℕ → ℕ
distance s i = le16 s (pair_start s i)

abbrev pub count : List ℕ → ℕ → ℕ
count s i = le16 s (pair_start s i + 2)

-- section i: its first byte and its count
abbrev pub section : List ℕ → ℕ → Section
section s i = record { start = length s - distance s i; count = count s i }

-- the section of label records; in version 1 there are none
abbrev pub label_section : List ℕ → Section
label_section s = cond (remembers s) (section s 6) (record { start = trailer s; count = 0 })

-- the most records of a section and the bytes of each
pub record Bound : Type 0 where
  pub most : ℕ
  pub size : ℕ

abbrev pub bound : {A : Type 0} → Format A → Bound
bound f = record { most = f.most; size = f.size }

unfoldable pub six_bounds : List Bound
six_bounds = bound cells_format ∷ bound regions_format ∷ bound rights_format ∷ bound nodes_format ∷ bound programs_format ∷ bound triggers_format ∷ []

abbrev pub seven_bounds : List Bound
seven_bounds = six_bounds ++ bound labels_format ∷ []

-- of all sections of a file
abbrev pub bounds : List ℕ → List Bound
bounds s = cond (remembers s) seven_bounds six_bounds

-- the sections from number i on follow one another with no gap from byte `at` to what stands behind them, none with more than its most records
unfoldable pub in_order : List ℕ → ℕ → ℕ → List Bound → Bool
in_order s i at [] = eqb (at + tail_size s) (length s)
in_order s i at (x ∷ xs) = eqb (distance s i + at) (length s) && (leb (count s i) x.most && in_order s (suc i) (at + count s i * x.size) xs)

-- the records of section i
abbrev pub section_records : {A : Type 0} → Format A → ℕ → List ℕ → List A
section_records f i s = records f (section s i).count (section s i).start s

-- the book in a file's bytes
unfoldable pub decode : List ℕ → Book
decode s = record {
  cells = section_records cells_format 0 s;
  regions = section_records regions_format 1 s;
  rights = section_records rights_format 2 s;
  nodes = section_records nodes_format 3 s;
  programs = section_records programs_format 4 s;
  triggers = section_records triggers_format 5 s;
  labels = records labels_format (label_section s).count (label_section s).start s;
}
