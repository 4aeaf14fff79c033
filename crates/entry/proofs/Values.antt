-- The entry's answer in the paper's numbers, from its contract. Assumes nothing.
use mathlib.Core.Path.{◌≡◌, ap, ◌∙◌}
use mathlib.Core.List.{List}
use mathlib.Core.Bool.{true}
use Prim.Native.Nat.{ℕ, ◌/◌}
use lib.ListN.{length}
use Rattle.book.specs.Layout.{decode}
use Rattle.book.specs.Refusals.{Verdict}
use Rattle.monitor.specs.Run.{Out}
use Rattle.monitor.specs.Call.{Memory, Result, values, run_book, call_verdict, result_of, answered, call}
use Rattle.monitor.specs.declared.Answer.{Answer}
use Rattle.entry.specs.Entry.{Runs, RunValues}
use Rattle.std.specs.Prelude.{Ok, Err}

module _ (file : List ℕ) (budget : ℕ) (before after : Memory) (r : Answer) (e : Runs file budget before r after) where
  by_verdict : (v : Verdict) → call_verdict file budget before ≡ v → values r ≡ values (answered true file budget before v).answer
  unfolding call
  by_verdict v q = ap (λ (x : Result). values x.answer) e ∙ ap (λ (w : Verdict). values (answered true file budget before w).answer) q

  by_run : (o : Out (Unit {0})) → call_verdict file budget before ≡ Ok tt
      → run_book true (decode file) budget (length before.trace / 8) ≡ o → values r ≡ values (result_of budget before o).answer
  unfolding answered
  by_run o q w = by_verdict (Ok tt) q ∙ ap (λ (x : Out (Unit {0})). values (result_of budget before x).answer) w

pub run_values : RunValues
unfolding answered result_of values
run_values file budget before after r e = record {
  refused = λ refusal q. by_verdict file budget before after r e (Err refusal) q;
  stopped = λ t h s q w. by_run file budget before after r e _ q w;
  finished = λ t s q w. by_run file budget before after r e _ q w;
}
