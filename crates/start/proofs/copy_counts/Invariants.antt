-- `start::copy_counts` meets its contract: the counts of the sections passed are stored.
use Prim.Native.Nat.{◌+◌, ◌≤◌}
use Rattle.book.specs.Bytes.{le16}
use Rattle.book.specs.Layout.{count}
use Rattle.machine.specs.Script.{counts_start}
use Rattle.start.proofs.Copies.{Numbers}
use Rattle.start.proofs.copy_counts.Given as goal

abbrev pub invariant-loop-i : goal.invariant-loop-i
invariant-loop-i l = (l.i ≤ 5) × Numbers le16 counts_start 2 (λ k. count l.file (k + 1)) l.initial.code l.code l.i
