-- What the header of a case says.
use Rattle.std.specs.Prelude.{List, ℕ, ◌≤◌}
use Rattle.book.specs.Bytes.{le16, le32}

-- the lengths in a header are at most those of the program's buffers
abbrev pub Lendable : List ℕ → Type 0
Lendable header =
    (le32 header 0 ≤ 60016) × (le32 header 8 ≤ 65544) × (le16 header 12 ≤ 520) × (le16 header 14 ≤ 16) × (le16 header 16 ≤ 4104)
