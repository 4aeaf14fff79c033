-- `Does`, from one step to the next: tests, an expression whose value is needed, and commands that follow one another. Assumes nothing.
use mathlib.Core.Path.{◌≡◌, refl, sym, ap, ◌∙◌}
use mathlib.Core.List.{List, [], ◌++◌}
use mathlib.Core.Bool.{true, false}
use Prim.Native.Nat.{ℕ, ◌+◌, ◌*◌, ◌≤◌, ◌<◌}
use native.Mathlib.Nat.{le_refl}
use native.Mathlib.Omega.{arith}
use lib.IntN.{ℤ}
use Rattle.std.specs.Prelude.{Ok, Err}
use lib.ListN.{length, length-append}
use borrow.Author.Tests.{le-leb, lt-leb}
use Rattle.monitor.specs.Labelled.{Label, Lab}
use Rattle.monitor.specs.Run.{State, Rec, Compared, no_sets, about_labels, Out, done, stop, M, after, next, ◌>>=◌, ◌>>◌, ret, look, Test, guard, need, pay, restore, own}
use Rattle.machine.specs.Store.{with_compared, cells_held, rights_in, undo_of, SameState, Store, store, state, room_in, with_records}
use Rattle.machine.specs.Promises.{stopped, Value, Outcome, Stops, Paid, compared_in, halted, given, Gives, ended, Leaves, Does}
use Rattle.machine.specs.declared.lent.Run.{Run}
use Rattle.machine.specs.declared.lent.Sets.{Sets}
use Rattle.machine.proofs.Stores.{compares_same, compares_undo}
use Rattle.machine.proofs.Traces.{with_none, with_length, with_both}

-- ---- one run after another

pub after_none : {A : Type 0} (o : Out A) → after [] o ≡ o
unfolding after
after_none (done records a s) = refl
after_none (stop records h s) = refl

after_ended : (o : Outcome) (run : Run) (sets : Sets) (a b : List Rec) (s : State)
    → after a (ended o run sets b s) ≡ ended o run sets (a ++ b) s
unfolding after ended
after_ended (Ok u) run sets a b s = refl
after_ended (Err e) run sets a b s = refl

next_done : (o : Outcome) (run : Run) (sets : Sets) (records : List Rec) (s : State) (k : M (Unit {0}))
    → o ≡ Ok tt → next (ended o run sets records s) (λ a. k) ≡ after records (k s)
unfolding next ended
next_done o run sets records s k e = rw e

next_stopped : (o : Outcome) (run : Run) (sets : Sets) (records : List Rec) (s : State) (k : M (Unit {0}))
    → o ≡ Err stopped → next (ended o run sets records s) (λ a. k) ≡ ended o run sets records s
unfolding next ended
next_stopped o run sets records s k e = rw e

pub next_known : {A : Type 0} (v : Value) (label : Label) (run : Run) (sets : Sets) (s : State) (k : Lab ℤ → M A) (z : ℤ)
    → v ≡ Ok z → next (given v label run sets s) k ≡ k (record { val = z; lab = label }) s
unfolding next given
next_known v label run sets s k z e = rw e (after_none (k (record { val = z; lab = label }) s))

-- an expression that stops, and what would have followed it
pub next_failed : {A : Type 0} (v : Value) (label : Label) (run : Run) (sets : Sets) (s : State) (k : Lab ℤ → M A) → v ≡ Err stopped
    → next (given v label run sets s) k ≡ stop [] (halted run sets) s
unfolding next given
next_failed v label run sets s k e = rw e

pub next_look : {A B : Type 0} (f : State → A) (k : A → M B) (s : State) → next (look f s) k ≡ k (f s) s
unfolding next
next_look f k s = after_none (k (f s) s)

-- ---- tests

pub guard_true : {A : Type 0} (x : State → Test) (number node : ℕ) (m : M A) (s : State) → (x s).passes ≡ true → guard x number node m s ≡ m s
unfolding guard
guard_true x number node m s e = rw (e, guard)

pub guard_false : {A : Type 0} (x : State → Test) (number node : ℕ) (m : M A) (s : State)
    → (x s).passes ≡ false → guard x number node m s ≡ stop [] (record { number = number; node = node; compared = (x s).compared }) s
unfolding guard
guard_false x number node m s e = rw (e, guard)

pub need_holds : {A : Type 0} (x : Test) (number node : ℕ) (k : Unit {0} → M A) (s : State)
    → x.passes ≡ true → next (need x number node s) k ≡ k tt s
unfolding need next
need_holds x number node k s e = ap (λ o. next o k) (guard_true (λ _. x) number node (ret tt) s e) ∙ after_none (k tt s)

pub need_fails : {A : Type 0} (x : Test) (number node : ℕ) (k : Unit {0} → M A) (s : State)
    → x.passes ≡ false → next (need x number node s) k ≡ stop [] (record { number = number; node = node; compared = x.compared }) s
unfolding need next
need_fails x number node k s e = ap (λ o. next o k) (guard_false (λ _. x) number node (ret tt) s e)

-- ---- Does

-- a store with other numbers
abbrev pub with_run : Store → Run → Store
with_run x run = store x.amounts x.sets run x.trace x.loan

-- numbers with the same budget left and the same trace bytes used are of the same state
state_same : (vars : ℕ → Lab ℤ) (x : Store) (run : Run) → run.left ≡ x.run.left → run.used ≡ x.run.used
    → state vars (with_run x run) ≡ state vars x
state_same vars x run l u = rw (l, u)

-- the stop of the rules is the one that the numbers and the sets hold
halted_is : {run run' : Run} {number node : ℕ} (sets : Sets) {c : Compared} → Stops run number node run' → compared_in number sets ≡ c
    → halted run' sets ≡ record { number = number; node = node; compared = c }
halted_is sets s e = rw (s.number_is, s.node_is, e)

-- a stop that is not about labels has no sets, and one that is has those in its rows
plain_sets : (number : ℕ) (sets : Sets) → about_labels number ≡ false → compared_in number sets ≡ no_sets
plain_sets number sets e = rw e

label_sets : (number : ℕ) (sets : Sets) (c : Compared) → about_labels number ≡ true → compared_in number (with_compared sets c) ≡ c
label_sets number sets c e = rw e

-- 21: a cost that is paid, and one for which there is not enough left
pub pay_passes : (cost n : ℕ) (vars : ℕ → Lab ℤ) (x : Store) {run : Run} → Paid x.run cost run
    → pay cost n (state vars x) ≡ done [] tt (state vars (with_run x run))
unfolding pay guard
pay_passes cost n vars x p = rw (le-leb cost (x.run.left) p.enough, p.left_is, p.used_same, guard)

pub pay_fails : (cost n : ℕ) (vars : ℕ → Lab ℤ) (x : Store) → x.run.left < cost
    → pay cost n (state vars x) ≡ stop [] (record { number = 21; node = n; compared = no_sets }) (state vars x)
unfolding pay guard
pay_fails cost n vars x h = rw (lt-leb cost (x.run.left) h, guard)

-- an expression's answer leaves the state but for what is left
gives_state : (vars : ℕ → Lab ℤ) (x : Store) {m : ℕ → M (Lab ℤ)} {before : Label} {v : Value} {run : Run} {label : Label}
    (d : Gives m (cells_held x.amounts x.sets) vars x.run before v run label) (fuel : ℕ) → x.run.left ≤ fuel
    → m fuel (state vars x) ≡ given v d.label run x.sets (state vars (with_run x run))
gives_state vars x {v = v} {run = run} d fuel h =
    d.is fuel h _ _ x.sets
    ∙ ap (λ (used : ℕ). given v d.label run x.sets (record {
      cells = cells_held x.amounts x.sets;
      vars = vars;
      rights = rights_in x.sets;
      left = run.left;
      room = room_in x.trace used;
    })) (sym d.used_same)

-- ---- what is left beside the rules' state

-- no record is written, and the trace bytes used stay
leaves_none : {x : Store} {amounts : List ℤ} {sets : Sets} {run : Run} → x.run.used ≤ length x.trace
    → run.left ≤ x.run.left → run.used ≡ x.run.used → sets.public ≡ x.sets.public
    → undo_of amounts sets ≡ undo_of x.amounts x.sets → Leaves x [] (store amounts sets run x.trace x.loan)
leaves_none {x} u w e p b = record {
  trace_is = sym (with_none x.trace (x.run.used));
  used_is = omega (arith, e);
  fits = omega (arith, e, u);
  within = w;
  public_same = p;
  undo_same = b;
  loan_same = refl;
}

-- the same from numbers of the run that have as much of the trace used
pub leaves_from : {x x' : Store} {run : Run} {records : List Rec} → run.used ≡ x.run.used → run.left ≤ x.run.left
    → Leaves (with_run x run) records x' → Leaves x records x'
leaves_from {x} {records = records} e w l = record {
  trace_is = l.trace_is ∙ ap (λ (n : ℕ). with_records x.trace n records) e;
  used_is = omega (arith, e, l.used_is);
  fits = l.fits;
  within = omega (arith, w, l.within);
  public_same = l.public_same;
  undo_same = l.undo_same;
  loan_same = l.loan_same;
}

-- the trace is as long as it was
pub leaves_long : {x x' : Store} {records : List Rec} → Leaves x records x' → length x'.trace ≡ length x.trace
leaves_long {x} {records = records} l =
    let end : x.run.used + 8 * length records ≤ length x.trace = omega (arith, l.used_is, l.fits) in
    ap length l.trace_is ∙ with_length x.trace (x.run.used) (omega arith) records end

-- one after the other
leaves_both : {x x₁ x₂ : Store} {a b : List Rec} → Leaves x a x₁ → Leaves x₁ b x₂ → Leaves x (a ++ b) x₂
leaves_both {x} {x₁} {a = a} {b = b} l k =
    let used : ℕ = x.run.used in
    record {
      trace_is = k.trace_is
          ∙ ap (λ (t : List ℕ). with_records t (x₁.run.used) b) l.trace_is
          ∙ ap (λ (n : ℕ). with_records (with_records x.trace used a) n b) l.used_is
          ∙ with_both x.trace used (omega (arith, l.used_is, l.fits)) a b;
      used_is = rw (length-append a b) (omega (arith, l.used_is, k.used_is));
      fits = omega (arith, k.fits, leaves_long l);
      within = omega (arith, l.within, k.within);
      public_same = k.public_same ∙ l.public_same;
      undo_same = k.undo_same ∙ l.undo_same;
      loan_same = k.loan_same ∙ l.loan_same;
    }

module _ {vars : ℕ → Lab ℤ} {x : Store} where
  -- a run that comes to another one without leaving the state
  pub comes_to : {m m' : ℕ → M (Unit {0})} {r : Outcome} {vars' : ℕ → Lab ℤ} {x' : Store}
      → ((fuel : ℕ) → x.run.left ≤ fuel → m fuel (state vars x) ≡ m' fuel (state vars x))
      → Does m' vars x r vars' x' → Does m vars x r vars' x'
  comes_to e d = record { records = d.records; is = λ fuel h. e fuel h ∙ d.is fuel h; leaves = d.leaves }

  -- the same run by another name
  pub does_as : {m m' : ℕ → M (Unit {0})} {r : Outcome} {vars' : ℕ → Lab ℤ} {x' : Store}
      → ((fuel : ℕ) → m fuel ≡ m' fuel) → Does m' vars x r vars' x' → Does m vars x r vars' x'
  does_as e d = comes_to (λ fuel _. ap (λ f. f (state vars x)) (e fuel)) d

  module _ (u : x.run.used ≤ length x.trace) where
    -- a run that writes no record, with any answer; it may change the numbers of the run but not the trace bytes used
    pub quietly : {m : ℕ → M (Unit {0})} {r : Outcome} {vars' : ℕ → Lab ℤ} {amounts : List ℤ} {sets : Sets} {run : Run}
        → run.left ≤ x.run.left → run.used ≡ x.run.used → sets.public ≡ x.sets.public
        → undo_of amounts sets ≡ undo_of x.amounts x.sets
        → ((fuel : ℕ) → x.run.left ≤ fuel → m fuel (state vars x) ≡ ended r run sets [] (state vars' (store amounts sets run x.trace x.loan)))
        → Does m vars x r vars' (store amounts sets run x.trace x.loan)
    quietly w e p b is = record { records = []; is = is; leaves = leaves_none u w e p b }

    -- a test that fails, with the sets that it compares; of the sets, only the rows of a stop may change
    stops_with : {m : ℕ → M (Unit {0})} {sets : Sets} {run : Run} {number node : ℕ} {c : Compared} → Stops x.run number node run
        → SameState x.amounts x.sets sets → undo_of x.amounts sets ≡ undo_of x.amounts x.sets → compared_in number sets ≡ c
        → ((fuel : ℕ) → x.run.left ≤ fuel → m fuel (state vars x) ≡ stop [] (record { number = number; node = node; compared = c }) (state vars x))
        → Does m vars x (Err stopped) vars (store x.amounts sets run x.trace x.loan)
    unfolding ended
    stops_with {sets = sets} {run = run} s same b e is =
        quietly (omega (arith, s.left_same)) s.used_same same.public_same b (λ fuel h. is fuel h
        ∙ (λ i. stop [] (sym (halted_is sets s e) i) (record {
          cells = sym same.cells_same i;
          vars = vars;
          rights = sym same.rights_same i;
          left = sym s.left_same i;
          room = room_in x.trace (sym s.used_same i);
        })))

    -- a test that is not about labels
    pub stops_on : {m : ℕ → M (Unit {0})} {run : Run} {number node : ℕ} → about_labels number ≡ false → Stops x.run number node run
        → ((fuel : ℕ) → x.run.left ≤ fuel → m fuel (state vars x) ≡ stop [] (record { number = number; node = node; compared = no_sets }) (state vars x))
        → Does m vars x (Err stopped) vars (with_run x run)
    stops_on {number = number} e s is = stops_with s (record { cells_same = refl; rights_same = refl; public_same = refl }) refl (plain_sets number x.sets e) is

    -- a test of labels, whose sets are left beside the others
    pub stops_outside : {m : ℕ → M (Unit {0})} {sets : Sets} {run : Run} {number node : ℕ} {c : Compared} → about_labels number ≡ true
        → Stops x.run number node run → sets ≡ with_compared x.sets c
        → ((fuel : ℕ) → x.run.left ≤ fuel → m fuel (state vars x) ≡ stop [] (record { number = number; node = node; compared = c }) (state vars x))
        → Does m vars x (Err stopped) vars (store x.amounts sets run x.trace x.loan)
    stops_outside {number = number} {c = c} e s l is =
        rw l (stops_with s (compares_same x.amounts x.sets c) (compares_undo x.amounts x.sets c) (label_sets number x.sets c e) is)

    -- a run that is done, and changes only the variables
    pub sets_vars : {m : ℕ → M (Unit {0})} {vars' : ℕ → Lab ℤ}
        → ((fuel : ℕ) → x.run.left ≤ fuel → m fuel (state vars x) ≡ done [] tt (state vars' x)) → Does m vars x (Ok tt) vars' x
    unfolding ended
    sets_vars is = quietly (le_refl (x.run.left)) refl refl refl is

  -- a command that stops is the end of what it begins
  pub then_stops : {m : ℕ → M (Unit {0})} (k : ℕ → M (Unit {0})) {r : Outcome} {vars' : ℕ → Lab ℤ} {x' : Store}
      → Does m vars x r vars' x' → r ≡ Err stopped → Does (λ fuel. m fuel >> k fuel) vars x r vars' x'
  then_stops k {r} {vars'} {x'} d e = record {
    records = d.records;
    is = λ fuel h. ap (λ o. next o (λ a. k fuel)) (d.is fuel h) ∙ next_stopped r x'.run x'.sets d.records (state vars' x') (k fuel) e;
    leaves = d.leaves;
  }

  -- a command that is done, and then another
  pub then_goes : {m k : ℕ → M (Unit {0})} {r : Outcome} {vars₁ : ℕ → Lab ℤ} {x₁ : Store} {r' : Outcome} {vars₂ : ℕ → Lab ℤ} {x₂ : Store}
      → Does m vars x r vars₁ x₁ → r ≡ Ok tt → Does k vars₁ x₁ r' vars₂ x₂ → Does (λ fuel. m fuel >> k fuel) vars x r' vars₂ x₂
  then_goes {m} {k} {r} {vars₁} {x₁} {r'} {vars₂} {x₂} d o e = record {
    records = d.records ++ e.records;
    is = λ fuel h. ap (λ o. next o (λ a. k fuel)) (d.is fuel h)
        ∙ next_done r x₁.run x₁.sets d.records (state vars₁ x₁) (k fuel) o
        ∙ ap (after d.records) (e.is fuel (omega (arith, d.leaves.within)))
        ∙ after_ended r' x₂.run x₂.sets d.records e.records (state vars₂ x₂);
    leaves = leaves_both d.leaves e.leaves;
  }

  -- from other numbers of the same state on
  pub from_run : {m : ℕ → M (Unit {0})} {run : Run} {r : Outcome} {vars' : ℕ → Lab ℤ} {x' : Store} → run.used ≡ x.run.used
      → {k : ℕ → M (Unit {0})} → run.left ≤ x.run.left
      → ((fuel : ℕ) → x.run.left ≤ fuel → m fuel (state vars x) ≡ k fuel (state vars (with_run x run)))
      → Does k vars (with_run x run) r vars' x' → Does m vars x r vars' x'
  from_run u w is d = record {
    records = d.records;
    is = λ fuel h. is fuel h ∙ d.is fuel (omega (arith, w));
    leaves = leaves_from u w d.leaves;
  }

  -- ---- an expression first

  module _ {m : ℕ → M (Lab ℤ)} {before : Label} {v : Value} {run : Run} {label : Label}
      (d : Gives m (cells_held x.amounts x.sets) vars x.run before v run label) (k : ℕ → Lab ℤ → M (Unit {0})) where
    pub value_stops : v ≡ Err stopped → x.run.used ≤ length x.trace
        → Does (λ fuel. m fuel >>= k fuel) vars x (Err stopped) vars (with_run x run)
    unfolding ended
    value_stops e u = quietly u d.within d.used_same refl refl
        (λ fuel h. ap (λ o. next o (k fuel)) (gives_state vars x d fuel h) ∙ next_failed v d.label run x.sets (state vars (with_run x run)) (k fuel) e)

    pub value_goes : {r : Outcome} {vars' : ℕ → Lab ℤ} {x' : Store} (z : ℤ) → v ≡ Ok z
        → Does (λ fuel. k fuel (record { val = z; lab = d.label })) vars (with_run x run) r vars' x'
        → Does (λ fuel. m fuel >>= k fuel) vars x r vars' x'
    value_goes z e w = from_run d.used_same d.within
        (λ fuel h. ap (λ o. next o (k fuel)) (gives_state vars x d fuel h) ∙ next_known v d.label run x.sets (state vars (with_run x run)) (k fuel) z e) w

-- a run with variables of its own: those of the caller come back
pub own_does : {m : ℕ → M (Unit {0})} {own_vars own_vars' vars : ℕ → Lab ℤ} {x x' : Store} {r : Outcome}
    → Does m own_vars x r own_vars' x' → Does (λ fuel. own own_vars (m fuel)) vars x r vars x'
unfolding own restore ended
own_does {own_vars' = own_vars'} {vars = vars} {x' = x'} {r = r} d = record {
  records = d.records;
  is = λ fuel h. ap (restore vars) (d.is fuel h) ∙ back r;
  leaves = d.leaves;
}
  where
    back : (o : Outcome) → restore vars (ended o x'.run x'.sets d.records (state own_vars' x')) ≡ ended o x'.run x'.sets d.records (state vars x')
    back (Ok u) = refl
    back (Err e) = refl
