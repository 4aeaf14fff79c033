-- What a stop inside a trigger's body takes back (Change 2): cells, and nothing else.
use Rattle.std.specs.Prelude.{List, Bool, false, ℕ}
use Rattle.book.specs.Records.{Book}
use Rattle.monitor.specs.Labelled.{Lab}
use Rattle.monitor.specs.Run.{Cell, State, Rec, Halt, Out, done, stop, with_cells}
use Rattle.monitor.specs.Rules.{run}
use Rattle.monitor.specs.Call.{script, start_state, run_book}

-- the run of a book by the rule before Change 2: what its postings wrote stands, wherever it stops
unfoldable pub standing_run : Bool → Book → ℕ → ℕ → Out (Unit {0})
standing_run labels b budget room = run (script b) (record { labels = labels; undoes = false }) budget (start_state b budget room)

-- Two ends are the same but for the cells of a stop: both are done, with the same records, value and state; or both stop, with the same
-- records, on the same node with the same number and the same sets, in states that differ in no more than their cells.
pub data SameButCells {A : Type 0} : Out A → Out A → Type 0 where
  both_done : {t : List Rec} {a : A} {s : State} → SameButCells (done t a s) (done t a s)
  both_stop : {t : List Rec} {h : Halt} {s : State} (cells : ℕ → Lab Cell) → SameButCells (stop t h (with_cells cells s)) (stop t h s)

-- Every run of a book ends as the run in which nothing is taken back, but for the cells of a stop.
abbrev pub OnlyCellsBack : Type 0
OnlyCellsBack = (labels : Bool) (b : Book) (budget room : ℕ) → SameButCells (run_book labels b budget room) (standing_run labels b budget room)
