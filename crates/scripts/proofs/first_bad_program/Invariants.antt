-- `scripts::first_bad_program` meets its contract: no program before the one that is tested is bad.
use Prim.Native.Nat.{◌≤◌}
use Rattle.book.specs.Layout.{decode}
use Rattle.book.specs.Refusals.{bad_program}
use Rattle.book.proofs.First.{NoneBelow}
use Rattle.scripts.proofs.first_bad_program.Given as goal

abbrev pub invariant-loop-program : goal.invariant-loop-program
invariant-loop-program l = (l.program ≤ l.programs.count) × NoneBelow (bad_program (decode l.file)) l.program
