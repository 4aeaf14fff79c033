-- A guarded run goes on if its test passes, and else stops where it stands, with no record. Assumes nothing.
use mathlib.Core.Path.{◌≡◌, refl}
use mathlib.Core.List.{[]}
use mathlib.Core.Bool.{Bool, true, false}
use Prim.Native.Nat.{ℕ}
use Rattle.monitor.specs.Run.{State, Halt, Out, stop, M, Test, guard}

-- the stop of a test that fails
abbrev pub halt : Test → ℕ → ℕ → Halt
halt x n i = record { number = n; node = i; compared = x.compared }

pub data Guarded {A : Type 0} (x : Test) (n i : ℕ) (m : M A) (s : State) : Out A → Type 0 where
  passed : x.passes ≡ true → Guarded x n i m s (m s)
  failed : x.passes ≡ false → Guarded x n i m s (stop [] (halt x n i) s)

pub guarded : {A : Type 0} (x : State → Test) (n i : ℕ) (m : M A) (s : State) → Guarded (x s) n i m s (guard x n i m s)
unfolding guard
guarded x n i m s = go (x s).passes refl
  where
    go : (y : Bool) → (x s).passes ≡ y → Guarded (x s) n i m s (elim y [ true ↦ m s | false ↦ stop [] (halt (x s) n i) s ])
    go true e = passed e
    go false e = failed e
