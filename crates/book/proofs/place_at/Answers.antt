-- `book::place_at` meets its contract: table, owner and line are the record's first three bytes.
use Rattle.book.specs.Records.{cells_format}
use native.Mathlib.Omega.{arith}
use Rattle.book.proofs.place_at.Goals as goal

pub returns : goal.returns
unfolding cells_format
returns c = (omega arith, omega arith)
