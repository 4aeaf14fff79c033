-- The script of a run in the array that it is lent as: where each section stands, the book that it holds, and what the functions that run it
-- ask of it.
use Rattle.std.specs.Prelude.{◌≡◌, List, [], false, ℕ, ◌+◌, ◌*◌, ◌≤◌, ◌<◌, length}
use Rattle.book.specs.Bytes.{le16, le32}
use Rattle.book.specs.Records.{records, Book, regions_format, rights_format, nodes_format, programs_format, triggers_format}
use Rattle.book.specs.Kinds.{cost_of, sort_of}
use Rattle.book.specs.Refusals.{node_at, bad_region, bad_right, bad_node, bad_program, bad_trigger}

-- ---- where the sections stand; each has room for its most records, and the nodes are at 0

-- the prices of the 27 kinds, four bytes each
abbrev pub prices_start : ℕ
prices_start = 16 * 1024

abbrev pub regions_start : ℕ
regions_start = prices_start + 4 * 27

abbrev pub rights_start : ℕ
rights_start = regions_start + 8 * 64

abbrev pub programs_start : ℕ
programs_start = rights_start + 4 * 64

abbrev pub triggers_start : ℕ
triggers_start = programs_start + 4 * 8

-- the number of records of each, two bytes: 0 regions, 1 rights, 2 nodes, 3 programs, 4 triggers
abbrev pub counts_start : ℕ
counts_start = triggers_start + 8 * 8

abbrev pub held_count : List ℕ → ℕ → ℕ
held_count s i = le16 s (counts_start + 2 * i)

-- the bytes of all
abbrev pub script_bytes : ℕ
script_bytes = counts_start + 2 * 5

-- ---- what they hold

-- the book without its cells, which is all of it that the rules look at
unfoldable pub script_of : List ℕ → Book
script_of s = record {
  cells = [];
  regions = records regions_format (held_count s 0) regions_start s;
  rights = records rights_format (held_count s 1) rights_start s;
  nodes = records nodes_format (held_count s 2) 0 s;
  programs = records programs_format (held_count s 3) programs_start s;
  triggers = records triggers_format (held_count s 4) triggers_start s;
  labels = [];
}

-- a book with no more records than a file may have, each of which passes its check
pub record Sound (b : Book) : Type 0 where
  pub few_regions : length b.regions ≤ 64
  pub few_rights : length b.rights ≤ 64
  pub few_nodes : length b.nodes ≤ 1024
  pub few_programs : length b.programs ≤ 8
  pub few_triggers : length b.triggers ≤ 8
  pub regions_ok : (i : ℕ) → i < length b.regions → bad_region b.regions i ≡ false
  pub rights_ok : (i : ℕ) → i < length b.rights → bad_right b i ≡ false
  pub nodes_ok : (i : ℕ) → i < length b.nodes → bad_node b i ≡ false
  pub programs_ok : (i : ℕ) → i < length b.programs → bad_program b i ≡ false
  pub triggers_ok : (i : ℕ) → i < length b.triggers → bad_trigger b i ≡ false

-- bytes from which a script can be run: they hold a sound one, and the price of each kind
pub record Runnable (s : List ℕ) : Type 0 where
  pub long : length s ≡ script_bytes
  pub sound : Sound (script_of s)
  pub prices_are : (kind : ℕ) → kind < 27 → le32 s (prices_start + 4 * kind) ≡ cost_of kind

-- n is a node of this sort
pub record Node (sort : ℕ) (b : Book) (n : ℕ) : Type 0 where
  pub inside : n < length b.nodes
  pub sort_is : sort_of (node_at b n).kind ≡ sort
