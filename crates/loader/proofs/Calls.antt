-- What loading leaves, by its verdict. Assumes nothing.
use mathlib.Core.Path.{◌≡◌, sym, ap, ◌∙◌}
use mathlib.Core.List.{List}
use mathlib.Core.Bool.{true}
use Prim.Native.Nat.{ℕ}
use lib.IntN.{ℤ}
use lib.Dec.{eqb}
use lib.ListN.{length}
use borrow.Author.Tests.{eq-eqb, eqb-true}
use Rattle.book.specs.Layout.{decode}
use Rattle.book.specs.Refusals.{Verdict, verdict_values, and_then, need, verdict}
use Rattle.book.specs.Start.{Lengths, start_amounts, start_presence, start_labels}
use Rattle.std.specs.Prelude.{Ok, Err, IsErrAnd}
use Rattle.book.specs.declared.Reason.TheVariants as reasons
use Rattle.book.specs.declared.Refusal.{Refusal}
use Rattle.book.proofs.Chains.{pass, both}
use Rattle.book.proofs.Verdicts.{passes, need_passes, leaves, need_values}
use Rattle.loader.specs.Load.{where_accepted, lent_fits, load_verdict, Loaded, load_call, LoadValues}

-- lent memory of the right lengths passes refusal 1
pub lent : {amounts : List ℤ} {presence labels : List ℕ} → Lengths amounts presence labels → lent_fits amounts presence labels ≡ true
lent l = pass (eq-eqb _ 512 l.amounts_are) (pass (eq-eqb _ 8 l.presence_is) (eq-eqb _ 4096 l.labels_are))

pub lengths : (amounts : List ℤ) (presence labels : List ℕ) → lent_fits amounts presence labels ≡ true → Lengths amounts presence labels
lengths amounts presence labels f =
    let amounts_in = both (eqb (length amounts) 512) _ f in
    let presence_in = both (eqb (length presence) 8) _ amounts_in.1 in
    record {
      amounts_are = eqb-true (length amounts) 512 amounts_in.0;
      presence_is = eqb-true (length presence) 8 presence_in.0;
      labels_are = eqb-true (length labels) 4096 presence_in.1;
    }

module _ (file : List ℕ) (amounts : List ℤ) (presence labels : List ℕ) where
  abbrev pub loaded : Verdict → Loaded
  loaded v = record {
    answer = v;
    amounts = where_accepted v (start_amounts (decode file)) amounts;
    presence = where_accepted v (start_presence (decode file)) presence;
    labels = where_accepted v (start_labels (decode file)) labels;
  }

  load_by : {v : Verdict} → load_verdict file amounts presence labels ≡ v → loaded v ≡ load_call file amounts presence labels
  unfolding load_call
  load_by e = sym (ap loaded e)

  -- where lent memory has the right lengths, the file decides
  pub file_decides : Lengths amounts presence labels → verdict file ≡ Ok tt → and_then (need reasons.Lent (lent_fits amounts presence labels)) (verdict file) ≡ Ok tt
  file_decides l v = passes (verdict file) (need_passes reasons.Lent (lent l)) ∙ v

  -- a call that refuses leaves all as it was
  pub load_refused : {r : Verdict} {refusal : Refusal} → and_then (need reasons.Lent (lent_fits amounts presence labels)) (verdict file) ≡ Err refusal → IsErrAnd r (λ e. e ≡ refusal)
      → record { answer = r; amounts = amounts; presence = presence; labels = labels } ≡ load_call file amounts presence labels
  unfolding load_verdict
  load_refused v h = rw (leaves h v ∙ v) (load_by v)

  -- and one that accepts leaves the start state
  pub load_accepted : (a : List ℤ) (p l : List ℕ) → and_then (need reasons.Lent (lent_fits amounts presence labels)) (verdict file) ≡ Ok tt
      → a ≡ start_amounts (decode file) → p ≡ start_presence (decode file) → l ≡ start_labels (decode file)
      → record { answer = Ok tt; amounts = a; presence = p; labels = l } ≡ load_call file amounts presence labels
  unfolding load_verdict
  load_accepted a p l v x y z = (λ i. record { answer = Ok tt; amounts = x i; presence = y i; labels = z i }) ∙ load_by v

pub load_values : LoadValues
unfolding load_call load_verdict
load_values file amounts a presence p labels l r e = ap (λ (x : Loaded). verdict_values x.answer) e ∙ need_values reasons.Lent (lent_fits amounts presence labels) (verdict file)
