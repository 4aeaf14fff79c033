-- `reaching::reaching_flags` meets its contract: the flags of the nodes passed are right.
use Prim.Native.Nat.{◌≤◌}
use mathlib.Core.Bool.{false}
use Rattle.book.specs.Layout.{count, decode}
use Rattle.book.specs.Refusals.{reaches}
use Rattle.kinds.proofs.Notes.{Noted}
use Rattle.reaching.proofs.reaching_flags.Given as goal

abbrev pub invariant-loop-flagged : goal.invariant-loop-flagged
invariant-loop-flagged l = (l.flagged ≤ l.nodes.count) × Noted (reaches (decode l.file) (count l.file 3)) false l.flags l.flagged
