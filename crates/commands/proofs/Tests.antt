-- The test of an if and of a while, and where it leads. Assumes nothing.
use mathlib.Core.Path.{◌≡◌, refl, sym, ap, ◌∙◌}
use mathlib.Core.List.{List}
use mathlib.Core.Bool.{Bool, true, false, cond}
use Prim.Native.Nat.{ℕ, ◌≤◌, ◌<◌}
use native.Mathlib.Omega.{arith}
use lib.Dec.{eqb}
use lib.IntN.{ℤ}
use lib.ListN.{length}
use Rattle.places.specs.Sets.{union}
use Rattle.std.specs.Prelude.{Ok, Err, Some, None}
use Rattle.book.specs.Records.{NodeRecord}
use Rattle.book.specs.Kinds as kinds
use Rattle.book.specs.Refusals.{node_at, is_zero}
use Rattle.monitor.specs.Labelled.{Label, Lab}
use Rattle.monitor.specs.Run.{Cell, Out, M, ◌>>=◌, ◌>>◌, ret}
use Rattle.monitor.specs.Syntax.{branch, while, cmd_of}
use Rattle.monitor.specs.Rules.{within_label, choose, command}
use Rattle.machine.specs.Script.{script_of, Sound, Node}
use Rattle.machine.specs.Store.{cells_held, Store}
use Rattle.machine.specs.Promises.{Value, Outcome, stopped, Evaluates, Does, Enters, Commands}
use Rattle.machine.specs.declared.Who.{Who}
use Rattle.machine.specs.declared.lent.Run.{Run}
use Rattle.machine.proofs.Nodes.{command_is, if_b, if_c, while_b}
use Rattle.machine.proofs.Runs.{with_run, does_as, sets_vars, value_stops, value_goes}
use Rattle.commands.specs.Parts.{Next, leads, Decides}
use Rattle.commands.proofs.Steps.{Keeps, run_keeps, Rest}

-- the ways that a test may lead
by_test : {A : Type 0} (x : NodeRecord) (v : Value) {r : Next} → r ≡ leads x v → (v ≡ Err stopped → r ≡ Err stopped → A)
    → ((z : ℤ) → v ≡ Ok z → is_zero z ≡ false → r ≡ Ok (Some x.b) → A)
    → ((z : ℤ) → v ≡ Ok z → is_zero z ≡ true → r ≡ cond (eqb x.kind 20) (Ok None) (Ok (Some x.c)) → A) → A
unfolding leads
by_test x (Err o) e fails other zero = fails refl e
by_test {A} x (Ok z) {r} e fails other zero = go (is_zero z) refl
  where
    go : (y : Bool) → is_zero z ≡ y → A
    go true h = zero z refl h (e ∙ ap (λ (y : Bool). cond y (cond (eqb x.kind 20) (Ok None) (Ok (Some x.c))) (Ok (Some x.b))) h)
    go false h = other z refl h (e ∙ ap (λ (y : Bool). cond y (cond (eqb x.kind 20) (Ok None) (Ok (Some x.c))) (Ok (Some x.b))) h)

chosen : (z : ℤ) (y : Bool) (m k : M (Unit {0})) → is_zero z ≡ y → choose z m k ≡ cond y k m
unfolding choose
chosen z true m k e = λ i s. ap (λ (w : Bool). elim w as (λ _. Out (Unit {0})) [ true ↦ k s | false ↦ m s ]) e i
chosen z false m k e = λ i s. ap (λ (w : Bool). elim w as (λ _. Out (Unit {0})) [ true ↦ k s | false ↦ m s ]) e i

module _ (code : List ℕ) (ctx : Label) (who : Who) (n : ℕ) where
  abbrev node : NodeRecord
  node = node_at (script_of code) n

  -- what is done where the test is not 0, and where it is, in the context with its label
  module _ (other zero : Label → ℕ → M (Unit {0})) where
    abbrev ways : ℕ → Lab ℤ → M (Unit {0})
    ways fuel y = choose y.val (other (union ctx y.lab) fuel) (zero (union ctx y.lab) fuel)

    module _ (is : (fuel : ℕ) → Commands code ctx who n fuel ≡ (Evaluates code node.a fuel >>= ways fuel)) {vars : ℕ → Lab ℤ} {x : Store}
        {r : Next} {run : Run} {inner : Label} (d : Decides code n (cells_held x.amounts x.sets) vars x.run ctx r run inner) where
      stops : d.answer ≡ Err stopped → x.run.used ≤ length x.trace → Does (Commands code ctx who n) vars x (Err stopped) vars (with_run x run)
      stops e u = does_as is (value_stops d.gives ways e u)

      goes : (y : Bool) (z : ℤ) → d.answer ≡ Ok z → is_zero z ≡ y → {q : Outcome} {vars' : ℕ → Lab ℤ} {x' : Store}
          → Does (λ fuel. cond y (zero inner fuel) (other inner fuel)) vars (with_run x run) q vars' x' → Does (Commands code ctx who n) vars x q vars' x'
      goes y z e o w = does_as is (value_goes d.gives ways z e (does_as (λ fuel. chosen z y _ _ o
          ∙ ap (λ (l : Label). cond y (zero l fuel) (other l fuel)) (sym (d.gives.joined e))) w))

  if_zero : {r : Next} → node.kind ≡ 19 → r ≡ cond (eqb node.kind 20) (Ok None) (Ok (Some node.c)) → r ≡ Ok (Some node.c)
  if_zero kind q = q ∙ ap (λ (k : ℕ). cond (eqb k 20) (Ok None) (Ok (Some node.c))) kind

  while_zero : {r : Next} → node.kind ≡ 20 → r ≡ cond (eqb node.kind 20) (Ok None) (Ok (Some node.c)) → r ≡ Ok None
  while_zero kind q = q ∙ ap (λ (k : ℕ). cond (eqb k 20) (Ok None) (Ok (Some node.c))) kind

  abbrev then : Label → ℕ → M (Unit {0})
  then l = Enters code l who node.b

  abbrev else : Label → ℕ → M (Unit {0})
  else l = Enters code l who node.c

  abbrev again : Label → ℕ → M (Unit {0})
  again l fuel = Enters code l who node.b fuel >> Enters code l who n fuel

  abbrev over : Label → ℕ → M (Unit {0})
  over l fuel = ret tt

  branch_is : node.kind ≡ 19 → (fuel : ℕ) → Commands code ctx who n fuel ≡ (Evaluates code node.a fuel >>= ways then else fuel)
  unfolding command cmd_of within_label
  branch_is kind fuel = command_is code ctx who n {y = branch node.a node.b node.c} (rw kind) fuel

  while_is : node.kind ≡ 20 → (fuel : ℕ) → Commands code ctx who n fuel ≡ (Evaluates code node.a fuel >>= ways again over fuel)
  unfolding command cmd_of within_label
  while_is kind fuel = command_is code ctx who n {y = while node.a node.b} (rw kind) fuel

  -- the test of an if leads to a command
  pub branch_never : {cells : ℕ → Lab Cell} {vars : ℕ → Lab ℤ} {run run' : Run} {before after : Label} {r : Next} → Decides code n cells vars run before r run' after
      → node.kind ≡ 19 → r ≡ Ok None → ⊥
  branch_never {r = r} d kind e = by_test node d.answer d.is (λ a q. let z : ◌≡◌ {A = ℕ} 0 1 = cc in omega arith) (λ z a o q. let z : ◌≡◌ {A = ℕ} 0 1 = cc in omega arith)
      (λ z a o q. let l : r ≡ Ok (Some node.c) = if_zero kind q in let z : ◌≡◌ {A = ℕ} 0 1 = cc in omega arith)

  module _ {vars : ℕ → Lab ℤ} {x : Store} {r : Next} {run : Run} {inner : Label}
      (d : Decides code n (cells_held x.amounts x.sets) vars x.run ctx r run inner) (u : x.run.used ≤ length x.trace) where
    pub decided_keeps : Keeps x (with_run x run)
    decided_keeps = run_keeps u d.gives.within d.gives.used_same

    -- the test stops
    pub branch_stops : node.kind ≡ 19 → r ≡ Err stopped → Does (Commands code ctx who n) vars x (Err stopped) vars (with_run x run)
    branch_stops kind e = by_test node d.answer d.is (λ a q. stops then else (branch_is kind) d a u) (λ z a o q. absurd (let z : ◌≡◌ {A = ℕ} 0 1 = cc in omega arith))
        (λ z a o q. absurd (let l : r ≡ Ok (Some node.c) = if_zero kind q in let z : ◌≡◌ {A = ℕ} 0 1 = cc in omega arith))

    pub while_stops : node.kind ≡ 20 → r ≡ Err stopped → Does (Commands code ctx who n) vars x (Err stopped) vars (with_run x run)
    while_stops kind e = by_test node d.answer d.is (λ a q. stops again over (while_is kind) d a u) (λ z a o q. absurd (let z : ◌≡◌ {A = ℕ} 0 1 = cc in omega arith))
        (λ z a o q. absurd (let l : r ≡ Ok None = while_zero kind q in let z : ◌≡◌ {A = ℕ} 0 1 = cc in omega arith))

    -- the test of a while leads to its end where it is 0
    pub while_ends : node.kind ≡ 20 → r ≡ Ok None → Does (Commands code ctx who n) vars x (Ok tt) vars (with_run x run)
    while_ends kind e = by_test node d.answer d.is (λ a q. absurd (let z : ◌≡◌ {A = ℕ} 0 1 = cc in omega arith)) (λ z a o q. absurd (let z : ◌≡◌ {A = ℕ} 0 1 = cc in omega arith))
        (λ z a o q. goes again over (while_is kind) d true z a o (sets_vars decided_keeps.fits (λ fuel _. refl)))

    module _ (v : Sound (script_of code)) (h : n < length (script_of code).nodes) {way : ℕ} (e : r ≡ Ok (Some way)) where
      -- 19: the command that it leads to, in the context with the test's label
      pub branch_goes : node.kind ≡ 19
          → Node kinds.command (script_of code) way × Rest (Commands code ctx who n) vars x (Enters code inner who way) vars (with_run x run)
      branch_goes kind = by_test node d.answer d.is
          (λ a q. absurd (let z : ◌≡◌ {A = ℕ} 0 1 = cc in omega arith))
          (λ z a o q. let b : way ≡ node.b = cc in (rw b (if_b (script_of code) v n h kind).node, record { keeps = decided_keeps; ends = λ w. goes then else (branch_is kind) d false z a o (rw b at w) }))
          (λ z a o q.
          let l : r ≡ Ok (Some node.c) = if_zero kind q in
          let b : way ≡ node.c = cc in
          (rw b (if_c (script_of code) v n h kind).node, record { keeps = decided_keeps; ends = λ w. goes then else (branch_is kind) d true z a o (rw b at w) }))

      -- 20: the body, and then the while anew, in that context
      pub while_goes : node.kind ≡ 20 → Node kinds.command (script_of code) way
          × Rest (Commands code ctx who n) vars x (λ fuel. Enters code inner who way fuel >> Enters code inner who n fuel) vars (with_run x run)
      while_goes kind = by_test node d.answer d.is
          (λ a q. absurd (let z : ◌≡◌ {A = ℕ} 0 1 = cc in omega arith))
          (λ z a o q. let b : way ≡ node.b = cc in (rw b (while_b (script_of code) v n h kind).node, record { keeps = decided_keeps; ends = λ w. goes again over (while_is kind) d false z a o (rw b at w) }))
          (λ z a o q. absurd (let l : r ≡ Ok None = while_zero kind q in let z : ◌≡◌ {A = ℕ} 0 1 = cc in omega arith))
