-- `queries::query` meets its contract.
use mathlib.Core.List.{List}
use Prim.Native.Nat.{ℕ}
use lib.IntN.{ℤ, pos}
use lib.ListN.{get_or}
use Rattle.machine.specs.Store.{cells_held}
use Rattle.queries.proofs.Sweeps.{AtOwner, AtLine}
use Rattle.queries.proofs.query.Given as goal

-- bound i
abbrev pub bound : List ℤ → ℕ → ℤ
bound bounds i = get_or bounds i (pos 0)

abbrev pub invariant-loop-line : goal.invariant-loop-line
invariant-loop-line l =
    AtLine l.kind (cells_held l.amounts l.sets) (bound l.bounds 0) (bound l.bounds 1) (bound l.bounds 2) (bound l.bounds 3) l.table l.owner l.line l.tally l.label

abbrev pub invariant-loop-owner : goal.invariant-loop-owner
invariant-loop-owner l =
    AtOwner l.kind (cells_held l.amounts l.sets) (bound l.bounds 0) (bound l.bounds 1) (bound l.bounds 2) (bound l.bounds 3) l.table l.owner l.tally l.label
