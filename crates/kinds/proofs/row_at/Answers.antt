-- `kinds::row_at` meets its contract: the columns of a row of the table are those of the kind.
use mathlib.Core.Path.{refl, ap}
use mathlib.Core.List.{List, []}
use Prim.Native.Nat.{ℕ}
use lib.ListN.{get_or}
use Rattle.book.specs.Start.{tabulate}
use Rattle.book.specs.Kinds.{cost_of, sort_of, fields_of, row_of}
use Rattle.book.specs.declared.Row.{Row}
use Rattle.book.proofs.Tabulate.{table_at}
use Rattle.kinds.specs.Table.{columns}
use Rattle.kinds.proofs.row_at.Goals as goal

-- a row from its columns
abbrev row : List ℕ → Row
row l = record { cost = get_or l 0 0; sort = get_or l 1 0; p = get_or l 2 0; a = get_or l 3 0; b = get_or l 4 0; c = get_or l 5 0; d = get_or l 6 0; k = get_or l 7 0 }

pub returns : goal.returns
unfolding tabulate row_of cost_of sort_of fields_of
returns c = ap row (table_at (λ kind. columns (row_of kind)) 27 _ refl c.args.at [] c.requires)
