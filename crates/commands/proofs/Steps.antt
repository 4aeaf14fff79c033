-- What a run keeps of the memory that it is lent, and the entry of a node: its cost is paid, or it stops with 21. Assumes nothing.
use mathlib.Core.Path.{◌≡◌, refl, ap, ◌∙◌}
use mathlib.Core.List.{List, []}
use mathlib.Core.Bool.{Bool}
use Prim.Native.Nat.{ℕ, zero, suc, ◌≤◌, ◌<◌}
use native.Mathlib.Omega.{arith}
use lib.IntN.{ℤ}
use lib.ListN.{length}
use Rattle.std.specs.Prelude.{Err}
use Rattle.book.specs.Kinds.{command, cost_of}
use Rattle.book.specs.Refusals.{node_at}
use Rattle.book.proofs.Costs.{cost_positive}
use Rattle.monitor.specs.Labelled.{Label, Lab}
use Rattle.monitor.specs.Run.{no_sets, stop, M, next}
use Rattle.monitor.specs.Rules.{cost_at, exec}
use Rattle.machine.specs.Script.{script_of, Node}
use Rattle.commands.specs.Parts.{Ready}
use Rattle.machine.specs.Store.{idle, undo_of, Store, state}
use Rattle.machine.specs.Promises.{Outcome, stopped, Paid, Short, Pays, ended, Does, Enters, Commands}
use Rattle.machine.specs.declared.Who.{Who}
use Rattle.machine.specs.declared.lent.Run.{Run}
use Rattle.machine.proofs.Runs.{after_none, with_run, pay_passes, pay_fails, leaves_from, leaves_long, stops_on}
use Rattle.machine.proofs.Stores.{idle_same}

-- ---- what is kept

pub record Keeps (x x' : Store) : Type 0 where
  pub same : length x'.trace ≡ length x.trace
  pub fits : x'.run.used ≤ length x'.trace
  pub within : x'.run.left ≤ x.run.left
  pub public_same : x'.sets.public ≡ x.sets.public
  pub undo_same : undo_of x'.amounts x'.sets ≡ undo_of x.amounts x.sets

pub does_keeps : {m : ℕ → M (Unit {0})} {vars vars' : ℕ → Lab ℤ} {x x' : Store} {r : Outcome} → Does m vars x r vars' x' → Keeps x x'
does_keeps d =
    let l = d.leaves in
    let long = leaves_long l in
    record { same = long; fits = omega (arith, l.fits, long); within = l.within; public_same = l.public_same; undo_same = l.undo_same }

-- other numbers of the run, with no more left
pub run_keeps : {x : Store} {run : Run} → x.run.used ≤ length x.trace → run.left ≤ x.run.left → run.used ≡ x.run.used
    → Keeps x (with_run x run)
run_keeps u w e = record { same = refl; fits = omega (arith, e, u); within = w; public_same = refl; undo_same = refl }

pub keeps_both : {x x' x'' : Store} → Keeps x x' → Keeps x' x'' → Keeps x x''
keeps_both k l = record {
  same = l.same ∙ k.same;
  fits = l.fits;
  within = omega (arith, k.within, l.within);
  public_same = l.public_same ∙ k.public_same;
  undo_same = l.undo_same ∙ k.undo_same;
}

-- a store by itself
pub keeps_itself : {x : Store} → x.run.used ≤ length x.trace → Keeps x x
keeps_itself u = record { same = refl; fits = u; within = omega arith; public_same = refl; undo_same = refl }

-- and a posting is under way as it was
pub idle_on : {x x' : Store} {b : Bool} → idle x.sets ≡ b → Keeps x x' → idle x'.sets ≡ b
idle_on {x} {x'} e k = idle_same x.amounts x'.amounts x.sets x'.sets k.undo_same ∙ e

-- so a command that is entered from it finds what it asks
pub ready_on : {code : List ℕ} {who : Who} {n m : ℕ} {x x' : Store} → Ready code who n x.sets → Keeps x x' → Node command (script_of code) m → Ready code who m x'.sets
ready_on r k node = record { public_is = k.public_same ∙ r.public_is; node = node; user_below = r.user_below; own_is = idle_on r.own_is k }

-- ---- the loops' invariant: what m' does from x' on is the rest of what m does from x on

pub record Rest (m : ℕ → M (Unit {0})) (vars : ℕ → Lab ℤ) (x : Store) (m' : ℕ → M (Unit {0})) (vars' : ℕ → Lab ℤ) (x' : Store) : Type 0 where
  pub keeps : Keeps x x'
  pub ends : {r : Outcome} {vars'' : ℕ → Lab ℤ} {x'' : Store} → Does m' vars' x' r vars'' x'' → Does m vars x r vars'' x''

pub rest_both : {m m' m'' : ℕ → M (Unit {0})} {vars vars' vars'' : ℕ → Lab ℤ} {x x' x'' : Store}
    → Rest m vars x m' vars' x' → Rest m' vars' x' m'' vars'' x'' → Rest m vars x m'' vars'' x''
rest_both r q = record { keeps = keeps_both r.keeps q.keeps; ends = λ d. r.ends (q.ends d) }

-- the same answer by another name
pub answers : {m : ℕ → M (Unit {0})} {vars vars' : ℕ → Lab ℤ} {x x' : Store} {q r : Outcome} → q ≡ r → Does m vars x r vars' x' → Does m vars x q vars' x'
answers e d = rw e d

-- ---- entering a node

module _ (code : List ℕ) (n : ℕ) where
  abbrev cost : ℕ
  cost = cost_at (script_of code) n

  -- the cost that the code looks up by the kind
  pub priced : {kind : ℕ} {run run' : Run} {r : Outcome} → kind ≡ (node_at (script_of code) n).kind → Pays run (cost_of kind) n r run' → Pays run cost n r run'
  priced e p = rw e at p

  -- what is left of the budget falls at each entry
  pub paid_less : {run run' : Run} → Paid run cost run' → run'.left < run.left
  paid_less p = omega (arith, p.enough, p.left_is, cost_positive (node_at (script_of code) n).kind)

  pub paid_keeps : {x : Store} {run : Run} → x.run.used ≤ length x.trace → Paid x.run cost run → Keeps x (with_run x run)
  paid_keeps u p = run_keeps u (omega (arith, paid_less p)) p.used_same

  module _ (ctx : Label) (who : Who) {vars : ℕ → Lab ℤ} {x : Store} {run : Run} where
    -- the cost is paid, one fuel is spent, and the command does its work
    pub enters : {r : Outcome} {vars' : ℕ → Lab ℤ} {x' : Store} → Paid x.run cost run
        → Does (Commands code ctx who n) vars (with_run x run) r vars' x' → Does (Enters code ctx who n) vars x r vars' x'
    unfolding exec next
    enters {r} {vars'} {x'} p d = record {
      records = d.records;
      is = entered;
      leaves = leaves_from p.used_same (omega (arith, paid_less p)) d.leaves;
    }
      where
        entered : (fuel : ℕ) → x.run.left ≤ fuel → Enters code ctx who n fuel (state vars x) ≡ ended r x'.run x'.sets d.records (state vars' x')
        entered zero h = absurd (omega (arith, paid_less p, h))
        entered (suc fuel) h =
            ap (λ o. next o (λ a. Commands code ctx who n fuel)) (pay_passes cost n vars x p) ∙ after_none _ ∙ d.is fuel (omega (arith, paid_less p, h))

    -- the cost would pass the budget
    pub enters_not : Short x.run cost n run → x.run.used ≤ length x.trace → Does (Enters code ctx who n) vars x (Err stopped) vars (with_run x run)
    unfolding exec next
    enters_not s u = stops_on u refl s.stops (λ fuel _. refused fuel)
      where
        refused : (fuel : ℕ) → Enters code ctx who n fuel (state vars x) ≡ stop [] (record { number = 21; node = n; compared = no_sets }) (state vars x)
        refused zero = refl
        refused (suc fuel) = ap (λ o. next o (λ a. Commands code ctx who n fuel)) (pay_fails cost n vars x s.lacks)
