-- What running and naming the cell give C: the numbers of the answers, which fit 32 bits. Assumes nothing.
use mathlib.Core.Path.{◌≡◌, refl, ap}
use mathlib.Core.List.{List}
use mathlib.Core.Bool.{true}
use Rattle.std.specs.Prelude.{Some}
use Prim.Native.Nat.{ℕ, ◌/◌, ◌≤◌, ◌<◌}
use native.Mathlib.Omega.{arith}
use lib.Dec.{eqb, leb, lit<, lit≤}
use lib.ListN.{length}
use borrow.Author.Tests.{leb-true}
use Rattle.book.specs.Layout.{decode}
use Rattle.book.specs.Refusals.{verdict_values, need, verdict, Verdict}
use Rattle.book.proofs.Chains.{both}
use Rattle.book.proofs.Verdicts.{accepts_both, need_accepts}
use Rattle.monitor.specs.Run.{Out}
use Rattle.monitor.specs.Rules.{monitored}
use Rattle.monitor.specs.Call.{Memory, Result, values, script, start_state, run_book, call_verdict, result_of, answered, call}
use Rattle.monitor.specs.Explain.{ExplainResult}
use Rattle.monitor.specs.Explain as tool
use Rattle.monitor.specs.declared.Answer.{Answer}
use Rattle.monitor.specs.declared.Values.{Values}
use Rattle.entry.specs.Explain.{Explains}
use Rattle.entry.specs.declared.Explained.{Explained}
use Rattle.entry.proofs.Reasons.{true_reason}
use Rattle.capi.specs.Calls.{ran, run_numbers, run_call, place_number, explain_numbers, explain_call}
use Rattle.capi.proofs.Indexes.{Low, low_need, low_then, low_verdict}
use Rattle.capi.proofs.Fields as fields
use Rattle.capi.proofs.Bounds.{Within, ends, halts, keeps_run}
use Rattle.std.specs.Prelude.{Ok, Err}
use Rattle.book.specs.declared.Reason.TheVariants as reasons

-- an index or a node, and the bytes of a whole trace
pub record Small (v : Values) : Type 0 where
  pub at : v.at < 1024
  pub bytes : v.bytes ≤ 65536

small_result : (budget : ℕ) (m : Memory) {o : Out (Unit {0})} → length m.trace ≤ 65536 → Within (length m.trace / 8) o
    → Small (values (result_of budget m o).answer)
unfolding values result_of
small_result budget m l (ends h) = record { at = lit< tt; bytes = omega arith }
small_result budget m l (halts h n) = record { at = n; bytes = omega arith }

module _ (file : List ℕ) (budget : ℕ) (m : Memory) where
  small : (v : Verdict) → call_verdict file budget m ≡ v → Low v → Small (values (answered true file budget m v).answer)
  unfolding call_verdict answered run_book start_state values verdict_values
  small (Err refusal) e l = record { at = l; bytes = lit≤ tt }
  small (Ok _) e l =
      let passed = accepts_both (need reasons.Lent _) (verdict file) e in
      let amounts = both (eqb (length m.amounts) 512) _ (need_accepts reasons.Lent _ passed.0) in
      let presence = both (eqb (length m.presence) 8) _ amounts.1 in
      let labels = both (eqb (length m.labels) 4096) _ presence.1 in
      let trace = both (leb (length m.trace) 65536) _ labels.1 in
      small_result budget m (leb-true _ _ trace.0)
      (keeps_run (script (decode file)) (fields.named file passed.1) monitored budget (start_state (decode file) budget (length m.trace / 8)))

  call_small : Small (values (call true file budget m).answer)
  unfolding call call_verdict
  call_small = small (call_verdict file budget m) refl (low_then _ _ (low_need reasons.Lent _) λ _. low_verdict file)

  module _ (a : Answer) (after : Memory) (e : record { answer = a; memory = after } ≡ call true file budget m) (v : Values) (q : v ≡ values a) where
    pub run_told : record { answer = record { number = v.number; at = v.at; cost = v.cost; bytes = v.bytes }; memory = after } ≡ run_call file budget m
    unfolding run_call run_numbers ran
    run_told = rw q (ap run_numbers e)

    pub run_small : Small v
    run_small =
        let same : a ≡ (call true file budget m).answer = ap (λ (r : Result). r.answer) e in
        rw (q, same) call_small

  -- the tool that names the cell
  module _ (r : Explained) (after : Memory) (e : Explains file budget m r after) (v : Values) (q : v ≡ values r.answer) where
    pub explain_told : {place : ℕ} → place ≡ place_number r.place
        → record { answer = record { number = v.number; at = v.at; cost = v.cost; bytes = v.bytes; place = place; count = r.count }; memory = after } ≡ explain_call file budget m
    unfolding explain_call explain_numbers
    explain_told p = rw (q, p) (ap explain_numbers e)

    pub explain_small : Small v
    unfolding tool.explain_call
    explain_small = run_small r.answer after (ap (λ (x : ExplainResult). x.result) e) v q

    pub explain_place : (p : ℕ) → r.place ≡ Some p → p < 512
    explain_place p n = ((true_reason file budget m after r e).reason p n).place
