-- What a stop takes back, of the entry's calls: an accepted call is the run of its book, which is the run of the rule before Change 2 but for
-- the cells of a stop. Assumes nothing.
use mathlib.Core.Path.{◌≡◌, refl, sym, ap, ◌∙◌}
use mathlib.Core.List.{List}
use mathlib.Core.Bool.{true, false≢true}
use Prim.Native.Nat.{ℕ, ◌/◌}
use lib.ListN.{length}
use Rattle.book.specs.Layout.{decode}
use Rattle.book.specs.Refusals.{Verdict}
use Rattle.monitor.specs.Run.{Out}
use Rattle.monitor.specs.Call.{Memory, Result, run_book, memory_after, result_of, call_verdict, answered, call}
use Rattle.monitor.specs.Explain.{explanation, explained, ExplainResult, explain_call}
use Rattle.monitor.specs.declared.Answer.{Answer}
use Rattle.monitor.specs.declared.Answer.TheVariants.{Refused, Stopped, Finished}
use Rattle.claims.specs.TwoBooks.{accepted, finished}
use Rattle.claims.specs.Undone.{standing_run, SameButCells, both_done, both_stop}
use Rattle.claims.proofs.Undone.{only_cells_back}
use Rattle.claims.proofs.Demand3.{accepted_is}
use Rattle.entry.specs.Entry.{result, Runs}
use Rattle.entry.specs.Claims.{standing_result, OnlyCellsBack, ExplainedBefore}
use Rattle.std.specs.Prelude.{Ok, Err}

-- ---- two ends of a run

module _ (budget : ℕ) (m : Memory) where
  same_answer : {o o' : Out (Unit {0})} → SameButCells o o' → (result_of budget m o).answer ≡ (result_of budget m o').answer
  unfolding result_of
  same_answer both_done = refl
  same_answer (both_stop cells) = refl

  same_trace : {o o' : Out (Unit {0})} → SameButCells o o' → (result_of budget m o).memory.trace ≡ (result_of budget m o').memory.trace
  unfolding result_of memory_after
  same_trace both_done = refl
  same_trace (both_stop cells) = refl

  same_finish : {o o' : Out (Unit {0})} → SameButCells o o' → finished (result_of budget m o).answer ≡ true → result_of budget m o ≡ result_of budget m o'
  unfolding result_of finished
  same_finish both_done e = refl
  same_finish (both_stop cells) e = absurd (false≢true e)

same_explanation : {o o' : Out (Unit {0})} → SameButCells o o' → explanation o ≡ explanation o'
unfolding explanation
same_explanation both_done = refl
same_explanation (both_stop cells) = refl

-- ---- a call

finished_accepted : (r : Answer) → finished r ≡ true → accepted r ≡ true
unfolding finished accepted
finished_accepted (Refused refusal) e = e
finished_accepted (Stopped number node cost bytes) e = refl
finished_accepted (Finished cost bytes) e = refl

module _ (file : List ℕ) (budget : ℕ) (before : Memory) where
  abbrev room : ℕ
  room = length before.trace / 8

  -- its run, beside the run in which nothing is taken back
  beside : SameButCells (run_book true (decode file) budget room) (standing_run true (decode file) budget room)
  beside = only_cells_back true (decode file) budget room

  module _ (after : Memory) (r : Answer) (e : Runs file budget before r after) where
    ran : accepted r ≡ true → result r after ≡ result_of budget before (run_book true (decode file) budget room)
    ran a = e ∙ accepted_is file budget before (sym (ap (λ (x : Result). accepted x.answer) e) ∙ a)

    finishes : finished r ≡ true → result r after ≡ standing_result file budget before
    finishes f =
        let e' = ran (finished_accepted r f) in
        e' ∙ same_finish budget before beside (sym (ap (λ (x : Result). finished x.answer) e') ∙ f)

  by_verdict : (v : Verdict) → accepted (answered true file budget before v).answer ≡ true
      → explained file budget before v ≡ explanation (standing_run true (decode file) budget room)
  unfolding answered accepted explained
  by_verdict (Err refusal) a = absurd (false≢true a)
  by_verdict (Ok _) a = same_explanation beside

pub only_cells_taken : OnlyCellsBack
only_cells_taken file budget before after r e = record {
  answer = λ a. ap (λ (x : Result). x.answer) (ran file budget before after r e a) ∙ same_answer budget before (beside file budget before);
  trace = λ a. ap (λ (x : Result). x.memory.trace) (ran file budget before after r e a) ∙ same_trace budget before (beside file budget before);
  finishes = finishes file budget before after r e;
}

pub explained_before : ExplainedBefore
unfolding explain_call call
explained_before file budget before after r e a =
    ap (λ (x : ExplainResult). x.explanation) e
    ∙ by_verdict file budget before (call_verdict file budget before) (sym (ap (λ (x : ExplainResult). accepted x.result.answer) e) ∙ a)
