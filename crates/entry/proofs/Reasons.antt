-- The reason that the tool gives is true: of the end that its call comes to, and so of its answer. Assumes nothing.
use mathlib.Core.Path.{◌≡◌, refl, sym, ap, ◌∙◌, subst}
use mathlib.Core.List.{List}
use mathlib.Core.Bool.{Bool, true, false, ◌&&◌, not, cond, true≢false, false≢true}
use Rattle.std.specs.Prelude.{None}
use Prim.Native.Nat.{ℕ, ◌/◌}
use native.Mathlib.Omega.{arith}
use lib.ListN.{length}
use borrow.Author.Tests.{not-true}
use Rattle.places.specs.Sets.{has, union, least, within}
use Rattle.places.proofs.Sets.{has_below, within_members}
use Rattle.places.proofs.Counting.{some_none, picked, none_picked, least_tally}
use Rattle.book.proofs.Chains.{both}
use Rattle.book.specs.Records.{Book}
use Rattle.book.specs.Refusals.{node_at, Verdict}
use Rattle.book.specs.Layout.{decode}
use Rattle.std.specs.Prelude.{Ok, Err}
use Rattle.book.specs.declared.Refusal.{Refusal}
use Rattle.monitor.specs.Labelled.{Lab}
use Rattle.monitor.specs.Run.{Cell, Rec, State, Compared, Halt, about_labels, Out, done, stop, with_cells}
use Rattle.monitor.specs.Rules.{standing}
use Rattle.monitor.specs.Call.{Memory, script, run_book, call_verdict}
use Rattle.monitor.proofs.Start.{script_public}
use Rattle.monitor.specs.Explain.{stands, Explanation, reason, no_reason, explanation, explained, ExplainResult, explain_call}
use Rattle.monitor.specs.declared.Answer.{Answer}
use Rattle.claims.specs.Reasons.{Bound, variable, cell, reader, everyone}
use Rattle.claims.specs.Undone.{standing_run, SameButCells, both_done, both_stop}
use Rattle.claims.proofs.Sized.{Small, Reasoned, outside, plain, Fine, stops, fine_standing}
use Rattle.claims.proofs.Undone.{only_cells_back}
use Rattle.claims.proofs.Steps.{Any}
use Rattle.entry.specs.Entry.{Runs}
use Rattle.entry.specs.Claims.{StopsWith, TrueOf, TrueReason}
use Rattle.entry.proofs.Values.{run_values}

-- answers that differ
refused_accepted : {A : Type 0} {refusal : Refusal} {v : Verdict} → v ≡ Err refusal → v ≡ Ok tt → A
refused_accepted e f = let z : ◌≡◌ {A = ℕ} 0 1 = cc in absurd (omega arith)

-- ---- the sets of a stop

module _ (c : Compared) where
  -- a place of the set tested that does not stand there is in the bound
  in_bound : (q : ℕ) → stands c q ≡ false → has c.tested q ≡ true → has c.bound q ≡ true
  unfolding stands
  in_bound q e h = go (has c.tested q) (has c.bound q) e h
    where
      go : (x y : Bool) → (x && not y) ≡ false → x ≡ true → y ≡ true
      go x true e h = refl
      go x false e h = absurd (false≢true (sym e ∙ rw h))

  -- some place stands in a set tested that is not within its bound
  some_stands : Small c.tested → within c.tested c.bound ≡ false → least (stands c) 512 ≡ None → ⊥
  some_stands small w e =
      let all : (q : ℕ) → has c.tested q ≡ true → has c.bound q ≡ true =
      λ q h. in_bound q (none_picked (stands c) 512 e q (omega (arith, has_below c.tested q h, small.few))) h in
      false≢true (sym w ∙ ((within_members small.words).1 all).holds)

-- the bound of a stop, in the whole book
bound_of : (b : Book) {s : State} {h : Halt} → Bound (script b) s h → Bound b s h
unfolding script
bound_of b (variable n) = variable n
bound_of b (cell n k t e) = cell n k t e
bound_of b {s} {h} (reader n e) = reader n (e ∙ ap (λ (l : List ℕ). union l (s.rights.read (node_at b h.node).p)) (script_public b))
bound_of b (everyone n e) = everyone n (e ∙ script_public b)

-- a stop about labels has one, and some place stands in its way
reasoned : (b : Book) {s : State} {h : Halt} → Reasoned (script b) h s → about_labels h.number ≡ true
    → Bound b s h × (least (stands h.compared) 512 ≡ None → ⊥)
reasoned b {h = h} (outside w x small) a = (bound_of b w, some_stands h.compared small x)
reasoned b (plain x) a = absurd (true≢false (sym a ∙ x))

-- ---- a call

module _ (file : List ℕ) (budget : ℕ) (before after : Memory) (answer : Answer) (e : Runs file budget before answer after) where
  abbrev Run : Out (Unit {0}) → Type 0
  Run o = run_book true (decode file) budget (length before.trace / 8) ≡ o

  -- and the run in which nothing is taken back
  abbrev Stands : Out (Unit {0}) → Type 0
  Stands o = standing_run true (decode file) budget (length before.trace / 8) ≡ o

  abbrev True : Explanation → Type 0
  True x = TrueOf file budget before answer x

  -- an end with no reason, where no stop about labels is
  no_names : ((halt : Halt) → StopsWith file budget before halt → about_labels halt.number ≡ true → ⊥) → True no_reason
  no_names h = record {
    reason = λ p q. absurd (some_none (sym q));
    none_zero = (λ _. refl, λ _. refl);
    names = λ halt w a. absurd (h halt w a);
  }

  -- the number of a stop
  number : Out (Unit {0}) → ℕ
  number (done t a s) = 0
  number (stop t h s) = h.number

  same_number : {o : Out (Unit {0})} → Run o → {halt : Halt} → StopsWith file budget before halt → number o ≡ halt.number
  unfolding number
  same_number r w = ap number (sym r ∙ w.run_is)

  stop_true : (t : List Rec) (h : Halt) (s : State) (cells : ℕ → Lab Cell) → call_verdict file budget before ≡ Ok tt
      → Run (stop t h (with_cells cells s)) → Stands (stop t h s) → Reasoned (script (decode file)) h s
      → (b : Bool) → about_labels h.number ≡ b → True (cond b (reason h.compared) no_reason)
  unfolding number reason stands
  stop_true t h s cells v r n w true a = record {
    reason = λ p q.
        let f = picked (stands h.compared) 512 p q in
        let in_out = both (has h.compared.tested p) (not (has h.compared.bound p)) f.1 in
        let answered = (run_values file budget before after answer e).stopped t h (with_cells cells s) v r in
        record {
          halt = h;
          stops = record { accepts = v; records = t; state = with_cells cells s; run_is = r };
          state = s;
          stands_is = n;
          left_is = refl;
          about = a;
          answered = (ap (λ x. x.number) answered, ap (λ x. x.at) answered);
          place = f.0;
          bound_is = (reasoned (decode file) w a).0;
          inside = in_out.0;
          outside = not-true _ in_out.1;
          lowest = λ q l. in_bound h.compared q (f.2 q l);
          counted = refl;
        };
    none_zero = least_tally (stands h.compared) 512;
    names = λ halt _ _. (reasoned (decode file) w a).1;
  }
  stop_true t h s cells v r n w false a = no_names (λ halt x y. true≢false (sym y ∙ ap about_labels (sym (same_number r x)) ∙ a))

  end_true : {o o' : Out (Unit {0})} → call_verdict file budget before ≡ Ok tt → Run o → Stands o'
      → SameButCells o o' → Fine (script (decode file)) standing Any o' → True (explanation o)
  unfolding explanation number
  end_true v r n both_done f = no_names (λ halt x y. true≢false (sym y ∙ ap about_labels (sym (same_number r x))))
  end_true v r n (both_stop {t = t} {h = h} {s = s} cells) (stops q w f) = stop_true t h s cells v r n (w refl) (about_labels h.number) refl

  call_true : (v : Verdict) → call_verdict file budget before ≡ v → True (explained file budget before v)
  unfolding explained
  call_true (Err refusal) v = no_names (λ halt x y. refused_accepted v x.accepts)
  call_true (Ok _) v =
      let room : ℕ = length before.trace / 8 in
      end_true v refl refl (only_cells_back true (decode file) budget room) (fine_standing true (decode file) budget room)

pub true_reason : TrueReason
unfolding explain_call
true_reason file budget before after r e =
    subst (TrueOf file budget before r.answer) (sym (ap (λ (x : ExplainResult). x.explanation) e))
    (call_true file budget before after r.answer (ap (λ (x : ExplainResult). x.result) e) (call_verdict file budget before) refl)
