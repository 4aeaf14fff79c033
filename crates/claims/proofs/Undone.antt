-- A stop inside a trigger's body takes back cells, and nothing else: every run is that of the rule before Change 2 but for these. Assumes
-- nothing.
use mathlib.Core.List.{List}
use mathlib.Core.Bool.{Bool, true, false}
use Prim.Native.Nat.{ℕ, zero, suc}
use lib.IntN.{ℤ}
use Rattle.book.specs.Records.{Book}
use Rattle.monitor.specs.Labelled.{Lab}
use Rattle.monitor.specs.Run.{Cell, State, Rec, Out, done, stop, M, after, next, guard, with_vars, restore, own, taken_back, undoing}
use Rattle.monitor.specs.Rules.{Mode, Env, eval, exec, program, run}
use Rattle.monitor.specs.Call.{script, run_book}
use Rattle.claims.specs.Undone.{standing_run, SameButCells, both_done, both_stop, OnlyCellsBack}
use Rattle.claims.proofs.Kept.{Relation, Kept, eaches, commands}

-- from every state
abbrev Stands : Relation
Stands A m m' = (s : State) → SameButCells (m s) (m' s)

-- ---- the steps

-- an end is the same as itself
itself : {A : Type 0} (o : Out A) → SameButCells o o
itself (done t a s) = both_done
itself (stop t h s) = both_stop s.cells

back_after : {A : Type 0} (t : List Rec) {o o' : Out A} → SameButCells o o' → SameButCells (after t o) (after t o')
unfolding after
back_after t both_done = both_done
back_after t (both_stop c) = both_stop c

back_next : {A B : Type 0} {k k' : A → M B} {o o' : Out A} → SameButCells o o' → ((a : A) → Stands B (k a) (k' a)) → SameButCells (next o k) (next o' k')
unfolding next
back_next (both_done {t = t} {a = a} {s = s}) h = back_after t (h a s)
back_next (both_stop c) h = both_stop c

back_restore : (v : ℕ → Lab ℤ) {o o' : Out (Unit {0})} → SameButCells o o' → SameButCells (restore v o) (restore v o')
unfolding restore
back_restore v both_done = both_done
back_restore v (both_stop c) = both_stop c

stands_own : (v : ℕ → Lab ℤ) {m m' : M (Unit {0})} → Stands (Unit {0}) m m' → Stands (Unit {0}) (own v m) (own v m')
unfolding own
stands_own v h = λ s. back_restore s.vars (h (with_vars v s))

back_taken : (cells : ℕ → Lab Cell) {o o' : Out (Unit {0})} → SameButCells o o' → SameButCells (taken_back cells o) o'
unfolding taken_back
back_taken cells both_done = both_done
back_taken cells (both_stop c) = both_stop cells

-- the first run takes its cells back, the second does not
stands_undoing : (x : Bool) {m m' : M (Unit {0})} → Stands (Unit {0}) m m' → Stands (Unit {0}) (undoing x m) (undoing false m')
unfolding undoing
stands_undoing true h = λ s. back_taken s.cells (h s)
stands_undoing false h = h

-- the two runs, with labels or with none
abbrev undone : Bool → Mode
undone labels = record { labels = labels; undoes = true }

abbrev left : Bool → Mode
left labels = record { labels = labels; undoes = false }

kept : (labels : Bool) → Kept (undone labels) (left labels) Stands
kept labels = record {
  looks = λ f s. both_done;
  binds = λ h g s. back_next (h s) g;
  tests = λ x n i {m} h s. itself (guard _ n i m s);
  label_tests = λ l bound n i {m} h s. itself (guard _ n i m s);
  commits = λ t f e s. both_done;
  owns = stands_own;
  undoings = stands_undoing;
}

-- ---- runs

stands_exec : (labels : Bool) (b : Book) (fuel : ℕ) (e : Env) (i : ℕ)
    → Stands (Unit {0}) (exec b (undone labels) fuel e i) (exec b (left labels) fuel e i)
unfolding exec
stands_exec labels b zero e i = λ s. itself _
stands_exec labels b (suc fuel) e i = (kept labels).binds (λ s. itself _) λ _.
    commands (kept labels) (eval b fuel) (eval b fuel) (λ a s. itself (eval b fuel a s)) b (exec b (undone labels) fuel) (exec b (left labels) fuel)
    (stands_exec labels b fuel) e i _

pub only_cells_back : OnlyCellsBack
unfolding run_book standing_run run program
only_cells_back labels b budget room = eaches (kept labels) _ (λ p. stands_own _ (stands_exec labels (script b) budget _ _)) _
