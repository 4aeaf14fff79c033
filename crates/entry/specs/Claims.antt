-- The claims about the entries, as statements over what they ensure: `Runs file budget before r after` is the contract of `run`, and
-- `Explains file budget before r after` that of `explain`, word for word. So each claim is about calls, from the file to the end. Their proofs
-- are in proofs/.
use Rattle.std.specs.Prelude.{◌≡◌, List, true, false, ◌&&◌, not, ◌↔◌, ℕ, ◌/◌, ◌<◌, length, Some, None, Ok}
use Rattle.places.specs.Sets.{has, Within, tally}
use Rattle.book.specs.Layout.{decode}
use Rattle.monitor.specs.Labelled.{Label}
use Rattle.monitor.specs.Run.{Rec, State, Halt, about_labels, stop, with_cells}
use Rattle.monitor.specs.Call.{Memory, Result, values, run_book, call_verdict, result_of, call}
use Rattle.monitor.specs.Explain.{Explanation, explanation}
use Rattle.claims.specs.TwoBooks.{Group, accepted, finished, reach, DifferOutside}
use Rattle.claims.specs.Claims.{LearnsNothing}
use Rattle.claims.specs.Reasons.{Bound}
use Rattle.claims.specs.Undone.{standing_run}
use Rattle.monitor.specs.declared.Answer.{Answer}
use Rattle.entry.specs.Entry.{result, Runs}
use Rattle.entry.specs.Explain.{explained, Explains}
use Rattle.entry.specs.declared.Explained.{Explained}

-- Demand 2, the run with no labels: where a call of the entry finishes, that run gives the same answer and leaves the same lent memory.
abbrev pub NoLabelsSame : Type 0
NoLabelsSame = (file : List ℕ) (budget : ℕ) (before after : Memory) (r : Answer)
    → Runs file budget before r after → finished r ≡ true → call false file budget before ≡ result r after

-- Demand 3, two books side by side: two calls of the entry, with any budgets, any trace lengths and any earlier contents of lent memory.
-- Both books are accepted, and they differ only in cells outside the reach that the group has in the first. Then of the two traces that
-- the group sees one begins the other; a run that finishes shows the group all that the other shows; and where both runs finish, the
-- traces are the same, and so are the cells inside the reach. What lies outside is read by starting label, whatever the versions of the two files.
abbrev pub Demand3 : Type 0
Demand3 = (g : Group) (file file' : List ℕ) (budget budget' : ℕ) (before before' after after' : Memory) (r r' : Answer)
    → Runs file budget before r after → Runs file' budget' before' r' after'
    → accepted r ≡ true → accepted r' ≡ true
    → DifferOutside (reach g file (result r after)) file file'
    → LearnsNothing g (reach g file (result r after)) (result r after) (result r' after')

-- The same for any set that holds the reach, as a chain of days needs it (crates/chains). With the reach itself it is Demand3.
abbrev pub Demand3Within : Type 0
Demand3Within = (g : Group) (R : Label) (file file' : List ℕ) (budget budget' : ℕ) (before before' after after' : Memory) (r r' : Answer)
    → Runs file budget before r after → Runs file' budget' before' r' after'
    → accepted r ≡ true → accepted r' ≡ true
    → Within (reach g file (result r after)) R → DifferOutside R file file'
    → LearnsNothing g R (result r after) (result r' after')

-- ---- the reason of a stop (Change 1)

-- A call that comes to this stop: its book is accepted, and its run stops with it, and leaves this state.
pub record StopsWith (file : List ℕ) (budget : ℕ) (before : Memory) (halt : Halt) : Type 0 where
  pub accepts : call_verdict file budget before ≡ Ok tt
  pub records : List Rec
  pub state : State
  pub run_is : run_book true (decode file) budget (length before.trace / 8) ≡ stop records halt state

-- Place p is a true reason: the call came to a stop about labels, whose number and node the answer gives; p stands in the set that it
-- tested and not in the set that this has to lie within; `Bound` says which set of the state in which the run stopped that is, but for 25; no
-- lower place does so; and the count is the number of all places that do.
-- `state` is that state before anything was taken back: the run by the rule before Change 2, which takes nothing back, stops in it with the same
-- records, and what the stop leaves differs from it in cells alone.
pub record Reason (file : List ℕ) (budget : ℕ) (before : Memory) (answer : Answer) (p count : ℕ) : Type 0 where
  pub halt : Halt
  pub stops : StopsWith file budget before halt
  pub state : State
  pub stands_is : standing_run true (decode file) budget (length before.trace / 8) ≡ stop stops.records halt state
  pub left_is : stops.state ≡ with_cells stops.state.cells state
  pub about : about_labels halt.number ≡ true
  pub answered : ((values answer).number ≡ halt.number) × ((values answer).at ≡ halt.node)
  pub place : p < 512
  pub bound_is : Bound (decode file) state halt
  pub inside : has halt.compared.tested p ≡ true
  pub outside : has halt.compared.bound p ≡ false
  pub lowest : (q : ℕ) → q < p → has halt.compared.tested q ≡ true → has halt.compared.bound q ≡ true
  pub counted : count ≡ tally (λ q. has halt.compared.tested q && not (has halt.compared.bound q)) 512

-- What is true of an explanation: a place that it names is a true reason; its count is 0 just where it names none; and a stop with 25, 26,
-- 27 or 29 always names one.
pub record TrueOf (file : List ℕ) (budget : ℕ) (before : Memory) (answer : Answer) (e : Explanation) : Type 0 where
  pub reason : (p : ℕ) → e.place ≡ Some p → Reason file budget before answer p e.count
  pub none_zero : (e.place ≡ None) ↔ (e.count ≡ 0)
  pub names : (halt : Halt) → StopsWith file budget before halt → about_labels halt.number ≡ true → (e.place ≡ None → ⊥)

-- The reason that the tool gives is true, at every call.
abbrev pub TrueReason : Type 0
TrueReason = (file : List ℕ) (budget : ℕ) (before after : Memory) (r : Explained)
    → Explains file budget before r after → TrueOf file budget before r.answer (explained r after).explanation

-- ---- what a stop takes back (Change 2)

-- the result of an accepted call by the rule before Change 2: what its postings wrote stands, wherever it stops
abbrev pub standing_result : List ℕ → ℕ → Memory → Result
standing_result file budget before = result_of budget before (standing_run true (decode file) budget (length before.trace / 8))

-- Cells and their labels are all that is taken back, and a stop alone takes back: an accepted call answers as by the rule before Change 2, with
-- the same stop, node, cost and trace bytes, and leaves the same trace; and one that finishes leaves the same cells and labels too.
pub record AsBefore (file : List ℕ) (budget : ℕ) (before after : Memory) (r : Answer) : Type 0 where
  pub answer : accepted r ≡ true → r ≡ (standing_result file budget before).answer
  pub trace : accepted r ≡ true → after.trace ≡ (standing_result file budget before).memory.trace
  pub finishes : finished r ≡ true → result r after ≡ standing_result file budget before

abbrev pub OnlyCellsBack : Type 0
OnlyCellsBack = (file : List ℕ) (budget : ℕ) (before after : Memory) (r : Answer)
    → Runs file budget before r after → AsBefore file budget before after r

-- What is undone does not mislead the tool: what it gives of an accepted call is the explanation of the run in which nothing is taken back.
abbrev pub ExplainedBefore : Type 0
ExplainedBefore = (file : List ℕ) (budget : ℕ) (before after : Memory) (r : Explained) → Explains file budget before r after
    → accepted r.answer ≡ true → (explained r after).explanation ≡ explanation (standing_run true (decode file) budget (length before.trace / 8))
