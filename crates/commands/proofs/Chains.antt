-- The turns of a list of commands: the first half of a sequence is entered, and its second half is the next turn. Assumes nothing.
use mathlib.Core.Path.{◌≡◌, refl, sym, ap}
use mathlib.Core.List.{List, append-nil}
use mathlib.Core.Bool.{Bool, true, false, cond}
use Prim.Native.Nat.{ℕ, ◌+◌, ◌*◌, ◌≤◌, ◌<◌}
use native.Mathlib.Omega.{arith}
use lib.Dec.{eqb}
use lib.IntN.{ℤ}
use lib.ListN.{length}
use borrow.Author.Tests.{eq-eqb, ne_eqb}
use Rattle.std.specs.Prelude.{Ok, Err}
use Rattle.book.specs.Records.{NodeRecord}
use Rattle.book.specs.Kinds as kinds
use Rattle.book.specs.Refusals.{node_at}
use Rattle.monitor.specs.Labelled.{Label, Lab}
use Rattle.monitor.specs.Run.{Rec, Out, done, stop, M, after, next, ◌>>◌, ret}
use Rattle.monitor.specs.Syntax.{seq, cmd_of}
use Rattle.monitor.specs.Rules.{cost_at, command}
use Rattle.machine.specs.Script.{script_of, Runnable, Node}
use Rattle.machine.specs.Store.{Store}
use Rattle.machine.specs.Promises.{Outcome, stopped, Paid, Does, Enters, Commands}
use Rattle.machine.specs.declared.Who.{Who}
use Rattle.machine.specs.declared.lent.Run.{Run}
use Rattle.machine.proofs.Nodes.{command_is, then_a, then_b}
use Rattle.machine.proofs.Runs.{with_run, does_as, then_stops, then_goes}
use Rattle.commands.proofs.Steps.{Keeps, does_keeps, keeps_both, keeps_itself, Rest, answers, paid_less, paid_keeps, enters}

-- What a command counts before it is executed; a unit of the budget counts 16. A sequence pays before its first half is entered; any other
-- command is entered with the budget as it is.
pub weight : List ℕ → ℕ → Run → ℕ
weight code n run = cond (eqb (node_at (script_of code) n).kind 18) (16 * run.left) (16 * run.left + 2)

module _ (code : List ℕ) (n : ℕ) (run : Run) where
  weight_most : weight code n run ≤ 16 * run.left + 2
  unfolding weight
  weight_most = go (eqb (node_at (script_of code) n).kind 18)
    where
      go : (y : Bool) → cond y (16 * run.left) (16 * run.left + 2) ≤ 16 * run.left + 2
      go true = omega arith
      go false = omega arith

  pub weight_list : (node_at (script_of code) n).kind ≡ 18 → weight code n run ≡ 16 * run.left
  unfolding weight
  weight_list e = rw (eq-eqb _ 18 e)

  weight_single : ((node_at (script_of code) n).kind ≡ 18 → ⊥) → weight code n run ≡ 16 * run.left + 2
  unfolding weight
  weight_single e = rw (ne_eqb _ 18 e)

-- of a store from which less or as much is left
pub weight_kept : (code : List ℕ) (n : ℕ) {x x' : Store} → Keeps x x' → weight code n x'.run ≤ 16 * x.run.left + 2
weight_kept code n {x' = x'} k = omega (arith, weight_most code n x'.run, k.within)

-- nothing follows
then_nothing : (o : Out (Unit {0})) → next o (λ a. ret tt) ≡ o
unfolding next after
then_nothing (done records a s) = ap (λ (r : List Rec). done r tt s) (append-nil records)
then_nothing (stop records h s) = refl

-- the invariant: what command m does from here on is the rest of what n does
pub record Chain (code : List ℕ) (ctx : Label) (who : Who) (n : ℕ) (vars : ℕ → Lab ℤ) (x : Store) (m : ℕ) (vars' : ℕ → Lab ℤ) (x' : Store) : Type 0 where
  pub node : Node kinds.command (script_of code) m
  pub rest : Rest (Enters code ctx who n) vars x (Enters code ctx who m) vars' x'
  pub within : weight code m x'.run ≤ weight code n x.run

module _ (code : List ℕ) (ctx : Label) (who : Who) (n : ℕ) where
  abbrev node : NodeRecord
  node = node_at (script_of code) n

  -- what follows the command that is entered: the second half, where there is one
  abbrev pub follows : Bool → ℕ → M (Unit {0})
  follows more fuel = cond more (Enters code ctx who node.b fuel) (ret tt)

  -- a turn: this command is entered, and what follows it is done
  pub record Head (vars : ℕ → Lab ℤ) (x : Store) (more : Bool) (m : ℕ) (x' : Store) : Type 0 where
    pub node_is : Node kinds.command (script_of code) m
    pub keeps : Keeps x x'
    pub less : 16 * x'.run.left + 1 < weight code n x.run
    pub falls : more ≡ true → x'.run.left < x.run.left
    pub second : more ≡ true → Node kinds.command (script_of code) node.b
    pub goes : {r : Outcome} {vars' : ℕ → Lab ℤ} {x'' : Store}
        → Does (λ fuel. Enters code ctx who m fuel >> follows more fuel) vars x' r vars' x'' → Does (Enters code ctx who n) vars x r vars' x''

  sequence_is : node.kind ≡ 18 → (fuel : ℕ) → Commands code ctx who n fuel ≡ (Enters code ctx who node.a fuel >> Enters code ctx who node.b fuel)
  unfolding command cmd_of
  sequence_is kind fuel = command_is code ctx who n {y = seq node.a node.b} (rw kind) fuel

  module _ {vars : ℕ → Lab ℤ} {x : Store} (u : x.run.used ≤ length x.trace) where
    -- of a sequence, once its cost is paid
    pub head_list : {more : Bool} → more ≡ true → Runnable code → n < length (script_of code).nodes → node.kind ≡ 18 → {m : ℕ} {run : Run}
        → m ≡ node.a → Paid x.run (cost_at (script_of code) n) run → Head vars x more m (with_run x run)
    head_list t v h kind e p = record {
      node_is = rw e (then_a (script_of code) v.sound n h kind).node;
      keeps = paid_keeps code n u p;
      less = omega (arith, weight_list code n x.run kind, paid_less code n p);
      falls = λ _. paid_less code n p;
      second = λ _. (then_b (script_of code) v.sound n h kind).node;
      goes = λ d. enters code n ctx who p (does_as (sequence_is kind) (rw (t, e) at d));
    }

    -- of any other command
    pub head_single : {more : Bool} → more ≡ false → Node kinds.command (script_of code) n → (node.kind ≡ 18 → ⊥) → {m : ℕ} → m ≡ n → Head vars x more m x
    head_single f h kind e = record {
      node_is = rw e h;
      keeps = keeps_itself u;
      less = omega (arith, weight_single code n x.run kind);
      falls = λ t. absurd (let z : ◌≡◌ {A = ℕ} 0 1 = cc in omega arith);
      second = λ t. absurd (let z : ◌≡◌ {A = ℕ} 0 1 = cc in omega arith);
      goes = λ d. does_as (λ fuel i s. sym (then_nothing (Enters code ctx who n fuel s)) i) (rw (f, e) at d);
    }

module _ {code : List ℕ} {ctx : Label} {who : Who} {n m : ℕ} {vars vars' : ℕ → Lab ℤ} {x x' : Store} (c : Chain code ctx who n vars x m vars' x')
    {more : Bool} {k : ℕ} {y : Store} (h : Head code ctx who m vars' x' more k y) where
  -- the command stops
  pub chain_stops : {r : Outcome} {vars'' : ℕ → Lab ℤ} {x'' : Store} → Does (Enters code ctx who k) vars' y r vars'' x'' → r ≡ Err stopped
      → Does (Enters code ctx who n) vars x (Err stopped) vars'' x''
  chain_stops d o = c.rest.ends (h.goes (answers (sym o) (then_stops (follows code ctx who m more) d o)))

  -- the second half is the next turn
  pub chain_turns : more ≡ true → {r : Outcome} {vars'' : ℕ → Lab ℤ} {x'' : Store} → Does (Enters code ctx who k) vars' y r vars'' x'' → r ≡ Ok tt
      → {b : ℕ} → b ≡ (node_at (script_of code) m).b → Chain code ctx who n vars x b vars'' x''
  chain_turns t {x'' = x''} d o {b} e = record {
    node = rw e (h.second t);
    rest = record {
      keeps = keeps_both c.rest.keeps (keeps_both h.keeps (does_keeps d));
      ends = λ g. c.rest.ends (h.goes (then_goes d o (rw t (rw e at g))));
    };
    within = omega (arith, c.within, h.less, d.leaves.within, weight_most code b x''.run);
  }
