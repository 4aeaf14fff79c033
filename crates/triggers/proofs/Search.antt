-- The steps of the search for the first trigger that fits. Assumes nothing.
use mathlib.Core.Path.{◌≡◌, ap}
use mathlib.Core.List.{List}
use mathlib.Core.Bool.{Bool, true, false, cond}
use Prim.Native.Nat.{ℕ, suc, ◌+◌, ◌-◌, ◌≤◌, ◌<◌}
use native.Mathlib.Numerals.{add-one}
use native.Mathlib.Omega.{arith}
use lib.ListN.{length}
use Rattle.std.specs.Prelude.{Some, None}
use Rattle.monitor.specs.Rules.{trigger_at, fitting}
use Rattle.machine.specs.Script.{script_of}
use Rattle.triggers.specs.Search.{first_fitting}

module _ (code : List ℕ) (event place t : ℕ) where
  abbrev count : ℕ
  count = length (script_of code).triggers

  -- there is none from the end on
  pub first_none : count ≤ t → first_fitting code event place (count - t) t ≡ None
  unfolding first_fitting
  first_none h =
      let none : count - t ≡ 0 = omega arith in
      ap (λ (k : ℕ). first_fitting code event place k t) none

  module _ (h : t < count) where
    first_chosen : first_fitting code event place (count - t) t
        ≡ cond (fitting (script_of code) event place (trigger_at (script_of code) t))
        (Some (record { number = t; user = (trigger_at (script_of code) t).user; body = (trigger_at (script_of code) t).body }))
        (first_fitting code event place (count - suc t) (suc t))
    unfolding first_fitting
    first_chosen =
        let more : count - t ≡ suc (count - suc t) = omega (arith, h) in
        ap (λ (k : ℕ). first_fitting code event place k t) more

    pub first_passes : {r : Bool} → r ≡ fitting (script_of code) event place (trigger_at (script_of code) t) → r ≡ false
        → first_fitting code event place (count - t) t ≡ first_fitting code event place (count - (t + 1)) (t + 1)
    first_passes is e = rw (first_chosen, ← is, e, add-one t)

    pub first_fits : {r : Bool} {user body : ℕ} → r ≡ fitting (script_of code) event place (trigger_at (script_of code) t) → r ≡ true
        → user ≡ (trigger_at (script_of code) t).user → body ≡ (trigger_at (script_of code) t).body
        → first_fitting code event place (count - t) t ≡ Some (record { number = t; user = user; body = body })
    first_fits is e eu eb = rw (first_chosen, ← is, e, eu, eb)
