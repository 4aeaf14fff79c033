-- `rights::right_sets` meets its contract: the sets of the users passed are stored.
use mathlib.Core.Path.{◌≡◌}
use mathlib.Core.List.{List, ◌++◌}
use Prim.Native.Nat.{ℕ}
use lib.ListN.{take, drop}
use Rattle.book.specs.Start.{tabulate, right_set}
use Rattle.machine.specs.Script.{script_of}
use Rattle.rights.proofs.right_sets.Given as goal

abbrev pub whole : List ℕ → ℕ → List (List ℕ)
whole code kind = tabulate (right_set (script_of code) kind) 8

abbrev pub invariant-loop-user : goal.invariant-loop-user
invariant-loop-user l = l.sets ≡ take l.user (whole l.script.bytes.now l.kind) ++ drop l.user l.initial.sets
