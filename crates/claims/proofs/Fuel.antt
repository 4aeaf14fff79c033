-- Fuel: the number on which the rules recurse need only be what is left of the budget; more of it changes nothing. Assumes nothing.
use mathlib.Core.Path.{◌≡◌, refl, sym, ap, ◌∙◌, subst}
use mathlib.Core.List.{List, []}
use mathlib.Core.Bool.{Bool, true, false, ◌&&◌}
use Prim.Native.Nat.{ℕ, zero, suc, ◌≤◌}
use native.Mathlib.Nat.{le_refl}
use native.Mathlib.Omega.{arith}
use lib.IntN.{ℤ}
use borrow.Author.Tests.{leb-true, lt-leb}
use Rattle.book.specs.Records.{Book}
use Rattle.book.specs.Refusals.{node_at}
use Rattle.book.proofs.Costs as kinds
use Rattle.monitor.specs.Labelled.{Lab}
use Rattle.monitor.specs.Run.{Cell, State, Rec, no_sets, Halt, Out, done, stop, M, after, next, ◌>>=◌, ◌>>◌, Test, guard, with_vars, pay, restore, own, taken_back, undoing}
use Rattle.monitor.specs.Rules.{Mode, monitored, Env, cost_at, eval, exec, program, run}
use Rattle.claims.specs.Claims.{FuelEnough}
use Rattle.claims.proofs.Guards.{Guarded, passed, failed, guarded}
use Rattle.claims.proofs.Kept.{Relation, Kept, eaches, expressions, commands}

-- a run that is done leaves at most n
data Left {A : Type 0} (n : ℕ) : Out A → Type 0 where
  at_most : {t : List Rec} {a : A} {s : State} → s.left ≤ n → Left n (done t a s)
  stopped : {t : List Rec} {h : Halt} {s : State} → Left n (stop t h s)

-- two runs have the same outcome, and leave at most n
record Equal {A : Type 0} (n : ℕ) (o o' : Out A) : Type 0 where
  same : o ≡ o'
  left : Left n o

-- they do so from every state that has at most m left
abbrev Spend : ℕ → ℕ → Relation
Spend m n A f f' = (s : State) → s.left ≤ m → Equal n (f s) (f' s)

-- ---- the steps

left_after : {A : Type 0} {n : ℕ} (t : List Rec) {o : Out A} → Left n o → Left n (after t o)
unfolding after
left_after t (at_most h) = at_most h
left_after t stopped = stopped

equal_next : {A B : Type 0} {m n : ℕ} {k k' : A → M B} {o : Out A} → Left m o → ((a : A) → Spend m n B (k a) (k' a)) → Equal n (next o k) (next o k')
unfolding next
equal_next (at_most {t = t} {a = a} {s = s} l) h = record { same = ap (after t) (h a s l).same; left = left_after t (h a s l).left }
equal_next stopped h = record { same = refl; left = stopped }

spend_bind : {A B : Type 0} {l m n : ℕ} {f f' : M A} {k k' : A → M B}
    → Spend l m A f f' → ((a : A) → Spend m n B (k a) (k' a)) → Spend l n B (f >>= k) (f' >>= k')
spend_bind {k' = k'} h g = λ s l.
    let x = equal_next (h s l).left g in
    record { same = x.same ∙ ap (λ o. next o k') (h s l).same; left = x.left }

left_guarded : {A : Type 0} {n : ℕ} {x : Test} {number i : ℕ} {m : M A} {s : State} {o : Out A} → (x.passes ≡ true → Left n (m s)) → Guarded x number i m s o → Left n o
left_guarded h (passed e) = h e
left_guarded h (failed e) = stopped

left_restore : {n : ℕ} (v : ℕ → Lab ℤ) {o : Out (Unit {0})} → Left n o → Left n (restore v o)
unfolding restore
left_restore v (at_most h) = at_most h
left_restore v stopped = stopped

spend_own : {n : ℕ} (v : ℕ → Lab ℤ) {m m' : M (Unit {0})} → Spend n n (Unit {0}) m m' → Spend n n (Unit {0}) (own v m) (own v m')
unfolding own
spend_own v h = λ s l.
    let x = h (with_vars v s) l in
    record { same = ap (restore s.vars) x.same; left = left_restore s.vars x.left }

left_taken_back : {n : ℕ} (c : ℕ → Lab Cell) {o : Out (Unit {0})} → Left n o → Left n (taken_back c o)
unfolding taken_back
left_taken_back c (at_most h) = at_most h
left_taken_back c stopped = stopped

spend_undoing : {n : ℕ} (x : Bool) {m m' : M (Unit {0})} → Spend n n (Unit {0}) m m' → Spend n n (Unit {0}) (undoing x m) (undoing x m')
unfolding undoing
spend_undoing true h = λ s l. record { same = ap (taken_back s.cells) (h s l).same; left = left_taken_back s.cells (h s l).left }
spend_undoing false h = h

kept : (mode : Mode) (n : ℕ) → Kept mode mode (Spend n n)
kept mode n = record {
  looks = λ f s l. record { same = refl; left = at_most l };
  binds = spend_bind;
  tests = λ x number i h s l. record { same = refl; left = left_guarded (λ e. (h s l).left) (guarded _ number i _ s) };
  label_tests = λ c bound number i h s l. record { same = refl; left = left_guarded (λ e. (h s l).left) (guarded _ number i _ s) };
  commits = λ t f e s l. record { same = refl; left = at_most {s = f s} (rw (e s) l) };
  owns = spend_own;
  undoings = λ x h. spend_undoing (mode.undoes && x) h;
}

-- ---- entering a node

cost_positive : (b : Book) (i : ℕ) → 1 ≤ cost_at b i
cost_positive b i = kinds.cost_positive (node_at b i).kind

spend_pay : {n : ℕ} (b : Book) (i : ℕ) → Spend (suc n) n (Unit {0}) (pay (cost_at b i) i) (pay (cost_at b i) i)
unfolding pay
spend_pay b i = λ s l. record {
  same = refl;
  left = left_guarded (λ e. at_most (omega (arith, cost_positive b i, leb-true (cost_at b i) s.left e))) (guarded _ 21 i _ s);
}

-- 21 on node i
abbrev pub out_of_budget : {A : Type 0} → ℕ → State → Out A
out_of_budget i s = stop [] (record { number = 21; node = i; compared = no_sets }) s

pay_nothing_left : (c i : ℕ) (s : State) → 1 ≤ c → s.left ≡ 0 → pay c i s ≡ out_of_budget i s
unfolding pay guard
pay_nothing_left c i s h e = rw (lt-leb c s.left (omega arith), guard)

enter_nothing_left : {A : Type 0} (b : Book) (i : ℕ) (m : M A) (s : State) → s.left ≡ 0 → (pay (cost_at b i) i >> m) s ≡ out_of_budget i s
unfolding next
enter_nothing_left b i m s e = rw (pay_nothing_left (cost_at b i) i s (cost_positive b i) e)

-- with nothing left, entering a node stops with 21
pub eval_nothing_left : (b : Book) (fuel i : ℕ) (s : State) → s.left ≡ 0 → eval b fuel i s ≡ out_of_budget i s
unfolding eval
eval_nothing_left b zero i s h = refl
eval_nothing_left b (suc fuel) i s h = enter_nothing_left b i _ s h

pub exec_nothing_left : (b : Book) (mode : Mode) (fuel : ℕ) (e : Env) (i : ℕ) (s : State)
    → s.left ≡ 0 → exec b mode fuel e i s ≡ out_of_budget i s
unfolding exec
exec_nothing_left b mode zero e i s h = refl
exec_nothing_left b mode (suc fuel) e i s h = enter_nothing_left b i _ s h

-- ---- any two fuels that are at least what is left

spend_nothing : {A : Type 0} {m m' : M A} (i : ℕ)
    → ((s : State) → s.left ≡ 0 → m s ≡ out_of_budget i s) → ((s : State) → s.left ≡ 0 → m' s ≡ out_of_budget i s) → Spend 0 0 A m m'
spend_nothing i h h' = λ s l.
    let e : s.left ≡ 0 = omega arith in
    record { same = h s e ∙ sym (h' s e); left = subst (Left 0) (sym (h s e)) stopped }

left_more : {A : Type 0} {n : ℕ} {o : Out A} → Left n o → Left (suc n) o
left_more {n = n} (at_most {s = s} l) = at_most {s = s} (omega arith)
left_more stopped = stopped

spend_enter : {A : Type 0} {n : ℕ} (b : Book) (i : ℕ) {m m' : M A}
    → Spend n n A m m' → Spend (suc n) (suc n) A (pay (cost_at b i) i >> m) (pay (cost_at b i) i >> m')
spend_enter b i h = λ s l.
    let x = spend_bind (spend_pay b i) (λ _. h) s l in
    record { same = x.same; left = left_more x.left }

spend_eval : (b : Book) (n fuel fuel' i : ℕ) → n ≤ fuel → n ≤ fuel' → Spend n n (Lab ℤ) (eval b fuel i) (eval b fuel' i)
unfolding eval
spend_eval b zero fuel fuel' i h h' = spend_nothing i (eval_nothing_left b fuel i) (eval_nothing_left b fuel' i)
spend_eval b (suc n) zero fuel' i h h' = absurd (omega arith)
spend_eval b (suc n) (suc fuel) zero i h h' = absurd (omega arith)
spend_eval b (suc n) (suc fuel) (suc fuel') i h h' =
    spend_enter b i (expressions (kept monitored n) (eval b fuel) (eval b fuel') (λ a. spend_eval b n fuel fuel' a (omega arith) (omega arith)) i _)

spend_exec : (b : Book) (mode : Mode) (n fuel fuel' : ℕ) (e : Env) (i : ℕ)
    → n ≤ fuel → n ≤ fuel' → Spend n n (Unit {0}) (exec b mode fuel e i) (exec b mode fuel' e i)
unfolding exec
spend_exec b mode zero fuel fuel' e i h h' = spend_nothing i (exec_nothing_left b mode fuel e i) (exec_nothing_left b mode fuel' e i)
spend_exec b mode (suc n) zero fuel' e i h h' = absurd (omega arith)
spend_exec b mode (suc n) (suc fuel) zero e i h h' = absurd (omega arith)
spend_exec b mode (suc n) (suc fuel) (suc fuel') e i h h' =
    spend_enter b i (commands (kept mode n)
    (eval b fuel) (eval b fuel') (λ a. spend_eval b n fuel fuel' a (omega arith) (omega arith)) b
    (exec b mode fuel) (exec b mode fuel') (λ e i. spend_exec b mode n fuel fuel' e i (omega arith) (omega arith)) e i _)

pub fuel_enough : FuelEnough
unfolding run program
fuel_enough b mode fuel fuel' s h h' =
    (eaches (kept mode s.left) b.programs (λ p. spend_own _ (spend_exec b mode s.left fuel fuel' _ _ h h')) s (le_refl _)).same
