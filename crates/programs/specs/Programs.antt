-- The programs of a book: one of them, and from one of them on.
use Rattle.std.specs.Prelude.{List, ℕ, get_or, drop}
use Rattle.book.specs.Refusals.{no_program}
use Rattle.monitor.specs.Run.{M, each}
use Rattle.monitor.specs.Rules.{monitored, program}
use Rattle.machine.specs.Script.{script_of}

abbrev pub Program : List ℕ → ℕ → ℕ → M (Unit {0})
Program code i fuel = program (script_of code) monitored fuel (get_or (script_of code).programs i no_program)

abbrev pub Programs : List ℕ → ℕ → ℕ → M (Unit {0})
Programs code i fuel = each (drop i (script_of code).programs) (program (script_of code) monitored fuel)
