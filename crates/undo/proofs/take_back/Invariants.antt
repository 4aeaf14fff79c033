-- `undo::take_back` meets its contract: the cells of the places passed are what they were when the posting began.
use Prim.Native.Nat.{◌≤◌}
use Rattle.undo.proofs.Back.{Back}
use Rattle.undo.proofs.take_back.Given as goal

abbrev pub invariant-loop-place : goal.invariant-loop-place
invariant-loop-place l = (l.place ≤ 512) × Back l.initial.amounts l.initial.sets l.place l.amounts l.sets
