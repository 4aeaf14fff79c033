-- What a call gives: where refusal 1 is about the budget or lent memory, and else by the file's verdict. Assumes nothing.
use mathlib.Core.Path.{◌≡◌, refl, sym, ap}
use mathlib.Core.List.{List}
use mathlib.Core.Bool.{Bool, true, false, ◌&&◌, false≢true, and-false, and-true}
use Prim.Native.Nat.{ℕ, ◌≤◌, ◌<◌}
use lib.Dec.{eqb, leb}
use lib.IntN.{ℤ}
use lib.ListN.{length}
use borrow.Author.Tests.{eqb-true, le-leb, lt-leb}
use Rattle.book.specs.Refusals.{and_then, need, verdict, refusal_of}
use Rattle.book.specs.Start.{Lengths}
use Rattle.std.specs.Prelude.{Ok, Err}
use Rattle.book.specs.declared.Reason.TheVariants as reasons
use Rattle.book.specs.declared.Refusal.{Refusal}
use Rattle.book.proofs.Chains.{both}
use Rattle.book.proofs.Verdicts.{stops, need_stops}
use Rattle.loader.specs.Load.{lent_fits}
use Rattle.monitor.specs.Labelled.{Label}
use Rattle.monitor.specs.Call.{Memory, Result, call_verdict, answered, call}
use Rattle.monitor.specs.declared.Answer.TheVariants.{Refused}
use Rattle.entry.specs.Entry.{lent, result}
use Rattle.entry.specs.Explain.{obstacle_after, obstacle_called}

-- a test that fails, fails with one more
wider : (x y z w : Bool) → (x && (y && z)) ≡ false → (x && (y && (z && w))) ≡ false
wider true true true w e = absurd (false≢true (sym e))
wider true true false w e = refl
wider true false z w e = refl
wider false y z w e = refl

module _ (file : List ℕ) (budget : ℕ) (amounts : List ℤ) (presence labels trace : List ℕ) where
  abbrev before : Memory
  before = lent amounts presence labels trace

  -- a call that is refused leaves all as it was
  pub refuses : {refusal : Refusal} (old : Label) → call_verdict file budget before ≡ Err refusal
      → (result (Refused refusal) before ≡ call true file budget before) × (old ≡ obstacle_called file budget before old)
  unfolding call answered obstacle_after
  refuses old e = (rw e, rw e)

  -- and one that is accepted runs
  pub runs : {x : Result} {places : Label} (old : Label) → call_verdict file budget before ≡ Ok tt
      → (x ≡ answered true file budget before (Ok tt)) × (places ≡ obstacle_after file budget before old (Ok tt))
      → (x ≡ call true file budget before) × (places ≡ obstacle_called file budget before old)
  unfolding call
  runs old e r = (rw e r.0, rw e r.1)

  -- 1: the budget, or the trace, is outside its bounds
  pub budget_over : 1000000 < budget → call_verdict file budget before ≡ Err (refusal_of reasons.Lent 0)
  unfolding call_verdict
  budget_over h = stops (verdict file) (need_stops reasons.Lent (rw (
    lt-leb budget 1000000 h,
    and-false (leb (length trace) 65536),
    and-false (eqb (length labels) 4096),
    and-false (eqb (length presence) 8),
    and-false (eqb (length amounts) 512),
  )))

  pub trace_over : 65536 < length trace → call_verdict file budget before ≡ Err (refusal_of reasons.Lent 0)
  unfolding call_verdict
  trace_over h = stops (verdict file) (need_stops reasons.Lent (rw (
    lt-leb (length trace) 65536 h,
    and-false (eqb (length labels) 4096),
    and-false (eqb (length presence) 8),
    and-false (eqb (length amounts) 512),
  )))

  -- 1: lent memory for cells has other lengths
  pub lengths_other : lent_fits amounts presence labels ≡ false → call_verdict file budget before ≡ Err (refusal_of reasons.Lent 0)
  unfolding call_verdict
  lengths_other e = stops (verdict file) (need_stops reasons.Lent (wider (eqb (length amounts) 512) (eqb (length presence) 8) (eqb (length labels) 4096) _ e))

  -- none of these: the file's verdict decides
  pub file_decides : budget ≤ 1000000 → length trace ≤ 65536 → lent_fits amounts presence labels ≡ true → call_verdict file budget before ≡ verdict file
  unfolding call_verdict and_then need
  file_decides b t f =
      rw (le-leb budget 1000000 b, le-leb (length trace) 65536 t, and-true (eqb (length labels) 4096)) (ap (λ (y : Bool). and_then (need reasons.Lent y) (verdict file)) f)

  pub lengths_are : lent_fits amounts presence labels ≡ true → Lengths amounts presence labels
  lengths_are f =
      let amounts_in = both (eqb (length amounts) 512) _ f in
      let presence_in = both (eqb (length presence) 8) _ amounts_in.1 in
      record {
        amounts_are = eqb-true (length amounts) 512 amounts_in.0;
        presence_is = eqb-true (length presence) 8 presence_in.0;
        labels_are = eqb-true (length labels) 4096 presence_in.1;
      }
