-- The run with no labels: where the labelled run finishes, the other is the same. Assumes nothing.
use mathlib.Core.Path.{◌≡◌, refl, ap, ◌∙◌}
use mathlib.Core.List.{List}
use mathlib.Core.Bool.{Bool, true, false, false≢true}
use Prim.Native.Nat.{ℕ, zero, suc}
use lib.IntN.{ℤ}
use Rattle.book.specs.Records.{Book}
use Rattle.book.specs.Refusals.{Verdict}
use Rattle.std.specs.Prelude.{Ok, Err}
use Rattle.monitor.specs.Labelled.{Label, Lab}
use Rattle.monitor.specs.Run.{Cell, State, Rec, Out, done, stop, M, after, next, Test, inside, guard, with_vars, restore, own, taken_back, undoing}
use Rattle.monitor.specs.Rules.{Mode, monitored, Env, eval, exec, program, run}
use Rattle.monitor.specs.Call.{Memory, run_book, result_of, answered, call, call_verdict}
use Rattle.claims.specs.TwoBooks.{finished}
use Rattle.claims.specs.Claims.{NoLabelsSame}
use Rattle.claims.proofs.Views.{is_done}
use Rattle.claims.proofs.Guards.{Guarded, passed, failed, guarded}
use Rattle.claims.proofs.Kept.{Relation, Kept, eaches, commands}

-- where the first run is done, the second is the same
abbrev Follows : Relation
Follows A m m' = (s : State) → is_done (m s) ≡ true → m' s ≡ m s

-- ---- the steps

done_after : {A : Type 0} (t : List Rec) (o : Out A) → is_done (after t o) ≡ true → is_done o ≡ true
unfolding after is_done
done_after t (done u a s) e = refl
done_after t (stop u h s) e = e

follows_next : {A B : Type 0} {k k' : A → M B} (o : Out A) {o' : Out A}
    → (is_done o ≡ true → o' ≡ o) → ((a : A) → Follows B (k a) (k' a)) → is_done (next o k) ≡ true → next o' k' ≡ next o k
unfolding next is_done
follows_next {k = k} {k' = k'} (done t a s) h g e = ap (λ o. next o k') (h refl) ∙ ap (after t) (g a s (done_after t (k a s) e))
follows_next (stop t x s) h g e = absurd (false≢true e)

done_guarded : {A : Type 0} {x : Test} {n i : ℕ} {m : M A} {s : State} {o : Out A} → Guarded x n i m s o → is_done o ≡ true → m s ≡ o
unfolding is_done
done_guarded (passed e) d = refl
done_guarded (failed e) d = absurd (false≢true d)

follows_test : {A : Type 0} (l : Label) (bound : State → Label) (n i : ℕ) (m : M A)
    → Follows A (guard (λ s. inside true l (bound s)) n i m) (guard (λ s. inside false l (bound s)) n i m)
unfolding guard
follows_test l bound n i m = λ s d. done_guarded {m = m} (guarded (λ s. inside true l (bound s)) n i m s) d

done_restore : (v : ℕ → Lab ℤ) (o : Out (Unit {0})) → is_done (restore v o) ≡ true → is_done o ≡ true
unfolding restore is_done
done_restore v (done t a s) e = refl
done_restore v (stop t h s) e = e

follows_own : (v : ℕ → Lab ℤ) {m m' : M (Unit {0})} → Follows (Unit {0}) m m' → Follows (Unit {0}) (own v m) (own v m')
unfolding own
follows_own v {m} h = λ s d. ap (restore s.vars) (h (with_vars v s) (done_restore s.vars (m (with_vars v s)) d))

done_taken_back : (c : ℕ → Lab Cell) (o : Out (Unit {0})) → is_done (taken_back c o) ≡ true → is_done o ≡ true
unfolding taken_back is_done
done_taken_back c (done t a s) e = refl
done_taken_back c (stop t h s) e = e

follows_undoing : (x : Bool) {m m' : M (Unit {0})} → Follows (Unit {0}) m m' → Follows (Unit {0}) (undoing x m) (undoing x m')
unfolding undoing
follows_undoing true {m} h = λ s d. ap (taken_back s.cells) (h s (done_taken_back s.cells (m s) d))
follows_undoing false h = h

-- the run with no labels
abbrev unlabelled : Mode
unlabelled = record { labels = false; undoes = true }

kept : Kept monitored unlabelled Follows
kept = record {
  looks = λ f s d. refl;
  binds = λ {A} {B} {m} h g s d. follows_next (m s) (h s) g d;
  tests = λ x n i h s d. refl;
  label_tests = λ l bound n i {m} h. follows_test l bound n i m;
  commits = λ t f e s d. refl;
  owns = follows_own;
  undoings = λ x h. follows_undoing x h;
}

-- ---- runs

follows_exec : (b : Book) (fuel : ℕ) (e : Env) (i : ℕ) → Follows (Unit {0}) (exec b monitored fuel e i) (exec b unlabelled fuel e i)
unfolding exec
follows_exec b zero e i = λ s d. refl
follows_exec b (suc fuel) e i = kept.binds (λ s d. refl) λ _.
    commands kept (eval b fuel) (eval b fuel) (λ a s d. refl) b (exec b monitored fuel) (exec b unlabelled fuel) (follows_exec b fuel) e i _

follows_run : (b : Book) (fuel : ℕ) → Follows (Unit {0}) (run b monitored fuel) (run b unlabelled fuel)
unfolding run program
follows_run b fuel = eaches kept b.programs λ p. follows_own _ (follows_exec b fuel _ _)

-- ---- calls

finished_done : (budget : ℕ) (m : Memory) (o : Out (Unit {0})) → finished (result_of budget m o).answer ≡ true → is_done o ≡ true
unfolding result_of finished is_done
finished_done budget m (done t a s) e = refl
finished_done budget m (stop t h s) e = e

follows_answer : (file : List ℕ) (budget : ℕ) (m : Memory) (v : Verdict)
    → finished (answered true file budget m v).answer ≡ true → answered false file budget m v ≡ answered true file budget m v
unfolding answered run_book
follows_answer file budget m (Err refusal) e = refl
follows_answer file budget m (Ok _) e = ap (result_of budget m) (follows_run _ _ _ (finished_done budget m _ e))

pub no_labels_same : NoLabelsSame
unfolding call
no_labels_same file budget m e = follows_answer file budget m (call_verdict file budget m) e
