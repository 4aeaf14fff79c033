-- What writing leaves, by its verdict. Assumes nothing.
use mathlib.Core.Path.{◌≡◌, refl, sym, ap, ◌∙◌}
use mathlib.Core.List.{List, ◌++◌}
use mathlib.Core.Bool.{Bool, true, false, ◌&&◌}
use lib.Dec.{eqb, leb}
use Prim.Native.Nat.{ℕ, ◌≤◌}
use lib.IntN.{ℤ}
use lib.ListN.{length, drop}
use Rattle.book.specs.Refusals.{Verdict, verdict_values, and_then, need, verdict}
use Rattle.std.specs.Prelude.{Ok, Err, IsErrAnd}
use Rattle.std.proofs.lemmas.Result.{err_from_is_err_and}
use Rattle.book.specs.declared.Reason.TheVariants as reasons
use Rattle.book.specs.declared.Refusal.{Refusal}
use Rattle.book.specs.declared.Reason.{Reason}
use Rattle.book.specs.Start.{Lengths}
use Rattle.book.proofs.Verdicts.{passes, need_passes}
use Rattle.loader.proofs.Calls.{lent}
use borrow.Author.Tests.{le-leb}
use Rattle.loader.specs.Load.{where_accepted, lent_fits}
use Rattle.writer.specs.Write.{Written, written_values, write_verdict, rewritten, write_answer, WriteCall, write_call, WriteValues}

-- a test of four parts, made in two steps
two_needs : (why : Reason) (x y z w : Bool) (v : Verdict) → and_then (need why (x && (y && (z && w)))) v ≡ and_then (need why (x && (y && z))) (and_then (need why w) v)
unfolding and_then need
two_needs why true true true w v = refl
two_needs why true true false w v = refl
two_needs why true false z w v = refl
two_needs why false y z w v = refl

module _ (file : List ℕ) (amounts : List ℤ) (presence labels out : List ℕ) where
  abbrev pub written : Verdict → WriteCall
  written v = record {
    answer = write_answer v (rewritten file amounts presence labels);
    out = where_accepted v (rewritten file amounts presence labels ++ drop (length (rewritten file amounts presence labels)) out) out;
  }

  pub write_by : {v : Verdict} → write_verdict file amounts presence labels out ≡ v → written v ≡ write_call file amounts presence labels out
  unfolding write_call
  write_by e = sym (ap written e)

  -- the code's steps: lent memory for cells first, then the output
  abbrev pub in_steps : Verdict
  in_steps = and_then (need reasons.Lent (lent_fits amounts presence labels)) (and_then (need reasons.Lent (leb 60000 (length out))) (verdict file))

  decides : write_verdict file amounts presence labels out ≡ in_steps
  unfolding write_verdict
  decides = two_needs reasons.Lent (eqb (length amounts) 512) (eqb (length presence) 8) (eqb (length labels) 4096) (leb 60000 (length out)) (verdict file)

  -- where lent memory and the output have the right lengths, the file decides
  pub file_decides : Lengths amounts presence labels → 60000 ≤ length out → verdict file ≡ Ok tt → in_steps ≡ Ok tt
  file_decides l h v = passes _ (need_passes reasons.Lent (lent l)) ∙ (passes _ (need_passes reasons.Lent (le-leb 60000 (length out) h)) ∙ v)

  -- a call that refuses leaves the output as it was
  pub write_refused : {r : Written} {refusal : Refusal} → in_steps ≡ Err refusal → IsErrAnd r (λ e. e ≡ refusal) → record { answer = r; out = out } ≡ write_call file amounts presence labels out
  write_refused {r} v h =
      let p = err_from_is_err_and r h in
      rw (p.1, p.2) (write_by (decides ∙ v))

  -- and one that accepts leaves the new book in it
  pub write_accepted : {n : ℕ} {o : List ℕ} → in_steps ≡ Ok tt → n ≡ length (rewritten file amounts presence labels) → o ≡ rewritten file amounts presence labels ++ drop n out
      → record { answer = Ok n; out = o } ≡ write_call file amounts presence labels out
  write_accepted {o = o} v x y =
      let z : o ≡ rewritten file amounts presence labels ++ drop (length (rewritten file amounts presence labels)) out = y ∙ rw x in
      (λ i. record { answer = Ok (x i); out = z i }) ∙ write_by (decides ∙ v)

-- the answer by its verdict, in numbers
answer_values : (v : Verdict) (new : List ℕ)
    → written_values (write_answer v new) ≡ record { number = (verdict_values v).number; index = (verdict_values v).index; bytes = where_accepted v (length new) 0 }
unfolding written_values verdict_values
answer_values (Ok _) new = refl
answer_values (Err refusal) new = refl

pub write_values : WriteValues
unfolding write_call
write_values file amounts presence labels out o r e =
    ap (λ (x : WriteCall). written_values x.answer) e ∙ answer_values (write_verdict file amounts presence labels out) (rewritten file amounts presence labels)
