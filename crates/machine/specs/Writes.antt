-- What is promised of the two parts of the write of a cell: the tests with the write itself, and the triggers that it fires.
use Rattle.std.specs.Prelude.{◌≡◌, List, true, ℕ, ◌<◌, ℤ, Result, Ok, Err}
use Rattle.monitor.specs.Labelled.{Label, Lab}
use Rattle.monitor.specs.Run.{Cell, M}
use Rattle.monitor.specs.Rules.{Key, key_place, posting, monitored, fire, exec}
use Rattle.machine.specs.Script.{script_of}
use Rattle.machine.specs.Store.{Store, cell}
use Rattle.machine.specs.Promises.{Outcome, Does}
use Rattle.machine.specs.declared.Stopped.{Stopped}
use Rattle.machine.specs.declared.lent.Event.{Event}
use Rattle.machine.specs.declared.lent.Event.TheVariants.{Put, Clear}
use Rattle.machine.specs.declared.lent.Entry.{Entry}

abbrev pub key_of : ℤ → ℤ → Key
key_of owner line = record { owner = owner; line = line }

-- the write of a cell: its place, or that the run stopped before it
abbrev pub Posted : Type 0
Posted = Result ℕ Stopped

unfoldable pub posted_end : Posted → Outcome
posted_end (Ok place) = Ok tt
posted_end (Err e) = Err e

-- the tests and the write, whatever the variables; the write has the label of z beside the context's
pub record Posts (n : ℕ) (ctx : Label) (user table : ℕ) (k : Key) (z : Lab Cell) (x : Store) (r : Posted) (x' : Store) : Type 0 where
  pub does : (vars : ℕ → Lab ℤ) → Does (λ fuel. posting true n ctx user table k z) vars x (posted_end r) vars x'
  pub place_is : (place : ℕ) → r ≡ Ok place → place ≡ key_place table k
  pub place_inside : (place : ℕ) → r ≡ Ok place → place < 512

-- an event's number in a book
unfoldable pub event_number : Event → ℕ
event_number Put = 1
event_number Clear = 2

-- the key and the new cell that a write hands to its triggers
abbrev pub key_in : Entry → Key
key_in entry = key_of entry.owner entry.line

abbrev pub cell_in : Event → Entry → Label → Lab Cell
cell_in event entry own = record { val = cell (event_number event) entry.amount; lab = own }

-- the triggers from number `above` on
abbrev pub Fires : List ℕ → Label → ℕ → ℕ → ℕ → Key → Lab Cell → ℕ → M (Unit {0})
Fires code ctx above event place k z fuel =
    fire (script_of code) true (exec (script_of code) monitored fuel) (record { ctx = ctx; user = 0; above = above }) event place k z
