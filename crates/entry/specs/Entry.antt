-- What the entry promises: its answer and lent memory at exit are those of the call that the rules define.
use Rattle.std.specs.Prelude.{◌≡◌, List, true, ℕ, ◌-◌, ◌*◌, ◌/◌, ℤ, length, Ok, Err}
use Rattle.book.specs.Layout.{decode}
use Rattle.monitor.specs.Run.{State, Rec, Halt, done, stop}
use Rattle.monitor.specs.Call.{Memory, Result, values, run_book, call_verdict, call}
use Rattle.monitor.specs.declared.Answer.{Answer}
use Rattle.monitor.specs.declared.Answer.TheVariants.{Stopped, Finished}
use Rattle.machine.specs.Promises.{Outcome}
use Rattle.machine.specs.declared.lent.Run.{Run}
use Rattle.book.specs.declared.Refusal.{Refusal}
use Rattle.book.specs.Refusals.{number_of as reason_number}

-- lent memory
abbrev pub lent : List ℤ → List ℕ → List ℕ → List ℕ → Memory
lent amounts presence labels trace = record { amounts = amounts; presence = presence; labels = labels; trace = trace }

-- what a call gives back: its answer, and lent memory as it leaves it
abbrev pub result : Answer → Memory → Result
result r m = record { answer = r; memory = m }

-- A call with this file, this budget and this lent memory answers r and leaves that memory: the labelled run of the rules, from the file
-- to its end, refusals included.
abbrev pub Runs : List ℕ → ℕ → Memory → Answer → Memory → Type 0
Runs file budget before r after = result r after ≡ call true file budget before

-- The answer of such a call in the paper's numbers: a refusal's number and index; or, of a book that is run, the stop's number and node, 0 and 0
-- where it finishes, with the cost and eight bytes for each record of the trace.
pub record ValuesAre (file : List ℕ) (budget : ℕ) (before : Memory) (r : Answer) : Type 0 where
  pub refused : (refusal : Refusal) → call_verdict file budget before ≡ Err refusal
      → values r ≡ record { number = reason_number refusal.reason; at = refusal.index; cost = 0; bytes = 0 }
  pub stopped : (t : List Rec) (h : Halt) (s : State) → call_verdict file budget before ≡ Ok tt
      → run_book true (decode file) budget (length before.trace / 8) ≡ stop t h s
      → values r ≡ record { number = h.number; at = h.node; cost = budget - s.left; bytes = 8 * length t }
  pub finished : (t : List Rec) (s : State) → call_verdict file budget before ≡ Ok tt
      → run_book true (decode file) budget (length before.trace / 8) ≡ done t tt s
      → values r ≡ record { number = 0; at = 0; cost = budget - s.left; bytes = 8 * length t }

abbrev pub RunValues : Type 0
RunValues = (file : List ℕ) (budget : ℕ) (before after : Memory) (r : Answer) → Runs file budget before r after → ValuesAre file budget before r

-- the answer for the end of a run, from its numbers: the cost is what was spent of the budget
unfoldable pub answer_of : Outcome → Run → ℕ → Answer
answer_of (Ok u) run budget = Finished (budget - run.left) run.used
answer_of (Err e) run budget = Stopped run.number run.node (budget - run.left) run.used
