-- Put and clear up to their triggers.
use Rattle.std.specs.Prelude.{◌≡◌, List, ℕ, ◌≤◌, ◌<◌, ℤ, pos, length, Result, Ok, Err}
use Rattle.places.specs.Sets.{union}
use Rattle.book.specs.Refusals.{node_at}
use Rattle.monitor.specs.Labelled.{Label, Lab, lit}
use Rattle.monitor.specs.Run.{M, ret}
use Rattle.monitor.specs.Rules.{eval}
use Rattle.machine.specs.Script.{script_of}
use Rattle.machine.specs.Store.{undo_of, Store, store}
use Rattle.machine.specs.Promises.{Outcome, stopped, Does, Stands}
use Rattle.machine.specs.Writes.{event_number, key_in, cell_in, Fires}
use Rattle.machine.specs.declared.Stopped.{Stopped}
use Rattle.machine.specs.declared.Who.{Who}
use Rattle.machine.specs.declared.lent.Sets.{Sets}
use Rattle.machine.specs.declared.lent.Run.{Run}
use Rattle.machine.specs.declared.lent.Event.{Event}
use Rattle.machine.specs.declared.lent.Event.TheVariants.{Put, Clear}
use Rattle.puts.specs.declared.Written.{Written}

-- the amount that put evaluates, and the 0 of clear
unfoldable pub NewAmount : List ℕ → ℕ → Event → ℕ → M (Lab ℤ)
NewAmount code n Put fuel = eval (script_of code) fuel (node_at (script_of code) n).c
NewAmount code n Clear fuel = ret (lit (pos 0))

-- Put or clear, not taken back, stops before its cell is written; or it does what firing its triggers does once the cell is written, in the
-- context `inner` with a key and a label that is `inner` joined with the amount's own. That holds for any trace, since none is written into.
pub record Writes (code : List ℕ) (ctx : Label) (who : Who) (n : ℕ) (event : Event) (vars : ℕ → Lab ℤ) (amounts : List ℤ) (sets : Sets) (run : Run) (r : Result Written Stopped) (amounts' : List ℤ) (sets' : Sets) (run' : Run) (inner label : Label) : Type 0 where
  pub own : Label
  pub stops : r ≡ Err stopped → (trace : List ℕ) (loan : ℕ) → run.used ≤ length trace
      → Does (Stands code ctx who n) vars (store amounts sets run trace loan) (Err stopped) vars (store amounts' sets' run' trace loan)
  pub goes : (w : Written) → r ≡ Ok w → (trace : List ℕ) (loan : ℕ) → run.used ≤ length trace → {q : Outcome} {x : Store}
      → Does (Fires code inner who.above (event_number event) w.place (key_in w.entry) (cell_in event w.entry own)) vars (store amounts' sets' run' trace loan) q vars x
      → Does (Stands code ctx who n) vars (store amounts sets run trace loan) q vars x
  pub label_is : (w : Written) → r ≡ Ok w → label ≡ union inner own
  pub inside : (w : Written) → r ≡ Ok w → w.place < 512
  pub within : run'.left ≤ run.left
  pub used_same : run'.used ≡ run.used
  pub public_same : sets'.public ≡ sets.public
  pub undo_same : undo_of amounts' sets' ≡ undo_of amounts sets
