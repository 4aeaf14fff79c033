-- What holds of every kind of node. Assumes nothing.
use mathlib.Core.Bool.{Bool, true, false, cond}
use Prim.Native.Nat.{ℕ, ◌≤◌}
use native.Mathlib.Omega.{arith}
use Rattle.book.specs.Kinds.{between, cost_of}

-- entering a node costs something
pub cost_positive : (kind : ℕ) → 1 ≤ cost_of kind
unfolding cost_of
cost_positive kind = go (between 8 11 kind)
  where
    go : (x : Bool) → 1 ≤ cond x 4 1
    go true = omega arith
    go false = omega arith
