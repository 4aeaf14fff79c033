-- `start::own_labels` meets its contract: the labels of the places passed are set, and those of the others are empty still.
use mathlib.Core.Path.{◌≡◌}
use Prim.Native.Nat.{ℕ, ◌≤◌, ◌<◌}
use Rattle.places.specs.Sets.{empty, single}
use Rattle.machine.specs.Store.{row_at}
use Rattle.start.proofs.own_labels.Given as goal

abbrev pub invariant-loop-place : goal.invariant-loop-place
invariant-loop-place l =
    ((q : ℕ) → q < l.place → row_at l.labels q ≡ single 8 q) × ((q : ℕ) → l.place ≤ q → q < 512 → row_at l.labels q ≡ empty 8)
