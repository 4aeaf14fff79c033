-- The triggers that a write fires, searched by number.
use Rattle.std.specs.Prelude.{List, cond, ℕ, zero, suc, Option, Some, None}
use Rattle.monitor.specs.Rules.{trigger_at, fitting}
use Rattle.machine.specs.Script.{script_of}
use Rattle.triggers.specs.declared.Fitting.{Fitting}

-- the first of k triggers from number t on that fits a write: its number, user and body
unfoldable pub first_fitting : List ℕ → ℕ → ℕ → ℕ → ℕ → Option Fitting
first_fitting code event place zero t = None
first_fitting code event place (suc k) t =
    cond (fitting (script_of code) event place (trigger_at (script_of code) t))
    (Some (record { number = t; user = (trigger_at (script_of code) t).user; body = (trigger_at (script_of code) t).body }))
    (first_fitting code event place k (suc t))
