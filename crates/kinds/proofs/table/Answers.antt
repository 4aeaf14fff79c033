-- `kinds::table` meets its contract: the table computes to the rows of the definition.
use mathlib.Core.Path.{refl}
use Rattle.book.specs.Kinds.{cost_of, sort_of, fields_of, row_of}
use Rattle.book.specs.Start.{tabulate}
use Rattle.kinds.specs.Table.{kinds_table}
use Rattle.kinds.proofs.table.Goals as goal

pub returns : goal.returns
unfolding kinds_table tabulate row_of cost_of sort_of fields_of
returns c = refl
