-- Places: the numbers of the cells' keys. 8 tables, 8 owners in each, 8 lines for each owner.
use Rattle.std.specs.Prelude.{ℕ, ◌+◌, ◌*◌, ◌/◌, ◌%◌}

-- the place of a key
abbrev pub place : ℕ → ℕ → ℕ → ℕ
place table owner line = 64 * table + 8 * owner + line

abbrev pub table_of : ℕ → ℕ
table_of p = p / 64

abbrev pub owner_of : ℕ → ℕ
owner_of p = p / 8 % 8

abbrev pub line_of : ℕ → ℕ
line_of p = p % 8
