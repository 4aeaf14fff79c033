-- The ways through an assignment and a raise: the expression stops, the context is not within the old label, the variable is set.
-- Assumes nothing.
use mathlib.Core.Path.{◌≡◌, refl, sym, ap, ◌∙◌}
use mathlib.Core.List.{List, []}
use mathlib.Core.Bool.{true, false}
use Prim.Native.Nat.{ℕ, ◌+◌, ◌*◌, ◌≤◌, ◌<◌}
use native.Mathlib.Omega.{arith}
use lib.IntN.{ℤ}
use lib.ListN.{length, set}
use Rattle.std.specs.Prelude.{Ok, Err}
use Rattle.places.specs.Sets.{union, within}
use Rattle.book.specs.Bytes.{byte, le16}
use Rattle.book.specs.Kinds as sorts
use Rattle.book.specs.Records.{NodeRecord}
use Rattle.book.specs.Refusals.{node_at}
use Rattle.monitor.specs.Labelled.{Label, Lab, under}
use Rattle.monitor.specs.Run.{done, ◌>>=◌, inside, update, set_var}
use Rattle.monitor.specs.Syntax.{assign, raise, cmd_of}
use Rattle.monitor.specs.Rules.{region_places, command}
use Rattle.machine.specs.Script.{script_of, Runnable, Node}
use Rattle.machine.specs.Store.{row_at, with_compared, cells_held, vars_of, Store, store, state}
use Rattle.machine.specs.Promises.{stopped, Value, Outcome, Stops, Gives, Evaluates, Does, Commands}
use Rattle.machine.specs.declared.Who.{Who}
use Rattle.machine.specs.declared.lent.Run.{Run}
use Rattle.machine.specs.declared.lent.Sets.{Sets}
use Rattle.machine.specs.declared.lent.Variables.{Variables}
use Rattle.machine.proofs.Nodes.{command_is, read_at, assign_p, assign_a, raise_p, raise_a}
use Rattle.machine.proofs.Runs.{guard_true, guard_false, with_run, does_as, stops_outside, sets_vars, value_stops, value_goes}
use Rattle.machine.proofs.Stores.{vars_stored, label_stored}

-- ---- what the code reads

-- a node of this kind
abbrev Of : ℕ → List ℕ → ℕ → Type 0
Of kind code n = Node sorts.command (script_of code) n × ((node_at (script_of code) n).kind ≡ kind)

module _ {code : List ℕ} {n : ℕ} (runs : Runnable code) where
  pub assigned : Of 17 code n → {p : ℕ} → p ≡ byte code (16 * n + 1) → p < 16
  assigned g e = omega (arith, e, (read_at code runs n g.0.inside).p, assign_p (script_of code) runs.sound n g.0.inside g.1)

  pub assigned_value : Of 17 code n → {a : ℕ} → a ≡ le16 code (16 * n + 2) → Node sorts.expression (script_of code) a
  assigned_value g e = rw (e, (read_at code runs n g.0.inside).a) (assign_a (script_of code) runs.sound n g.0.inside g.1).node

  pub raised : Of 26 code n → {p : ℕ} → p ≡ byte code (16 * n + 1) → p < 16
  raised g e = omega (arith, e, (read_at code runs n g.0.inside).p, raise_p (script_of code) runs.sound n g.0.inside g.1)

  pub raised_region : Of 26 code n → {a : ℕ} → a ≡ le16 code (16 * n + 2) → a < length (script_of code).regions
  raised_region g e = rw (e, (read_at code runs n g.0.inside).a) (raise_a (script_of code) runs.sound n g.0.inside g.1)

-- ---- a variable

module _ (n : ℕ) (ctx : Label) (p : ℕ) (new : Lab ℤ → Lab ℤ) (vars : Variables) {x : Store} (u : x.run.used ≤ length x.trace) where
  keeps_var : {run : Run} {sets : Sets} → within ctx (row_at vars.labels p) ≡ false
      → Stops x.run 25 n run → sets ≡ with_compared x.sets (record { tested = ctx; bound = row_at vars.labels p })
      → Does (λ fuel. set_var true n ctx p new) (vars_of vars) x (Err stopped) (vars_of vars) (store x.amounts sets run x.trace x.loan)
  unfolding set_var vars_of
  keeps_var h s c =
      stops_outside u refl s c (λ fuel _. guard_false (λ s. inside true ctx (s.vars p).lab) 25 n _ (state (vars_of vars) x) h)

  sets_var : {vars' : ℕ → Lab ℤ} → within ctx (row_at vars.labels p) ≡ true → vars' ≡ update (vars_of vars) p (new (vars_of vars p))
      → Does (λ fuel. set_var true n ctx p new) (vars_of vars) x (Ok tt) vars' x
  unfolding set_var vars_of
  sets_var h stored = sets_vars u (λ fuel _. guard_true (λ s. inside true ctx (s.vars p).lab) 25 n _ (state (vars_of vars) x) h
      ∙ ap (λ v. done [] tt (state v x)) (sym stored))

-- ---- the commands

module _ (code : List ℕ) (ctx : Label) (n : ℕ) (who : Who) (vars : Variables) (x : Store) (runs : Runnable code) (u : x.run.used ≤ length x.trace) where
  abbrev node : NodeRecord
  node = node_at (script_of code) n

  abbrev Ends : Outcome → (ℕ → Lab ℤ) → Store → Type 0
  Ends r vars' x' = Does (Commands code ctx who n) (vars_of vars) x r vars' x'

  -- the node a of the expression, and what it gives
  module _ (g : Of 17 code n) {a : ℕ} (ea : a ≡ le16 code (16 * n + 2)) {v : Value} {run : Run} {label : Label}
      (d : Gives (Evaluates code a) (cells_held x.amounts x.sets) (vars_of vars) x.run ctx v run label) where
    as_assign : (p : ℕ) → p ≡ node.p → (fuel : ℕ) → Commands code ctx who n fuel ≡ (Evaluates code a fuel >>= λ y. set_var true n ctx p (λ old. under ctx y))
    unfolding command cmd_of
    as_assign p ep fuel = command_is code ctx who n {y = assign node.p node.a} (rw g.1) fuel ∙ rw (ep, ea, (read_at code runs n g.0.inside).a)

    pub assign_fails : v ≡ Err stopped → Ends (Err stopped) (vars_of vars) (with_run x run)
    assign_fails e = does_as (as_assign node.p (λ i. node.p)) (value_stops d (λ _ y. set_var true n ctx node.p (λ old. under ctx y)) e u)

    -- its value, and the variable p
    module _ {z : ℤ} (e : v ≡ Ok z) {p : ℕ} (ep : p ≡ byte code (16 * n + 1)) where
      goes : {r : Outcome} {vars' : ℕ → Lab ℤ} {x' : Store} → Does (λ fuel. set_var true n ctx p (λ old. under ctx (record { val = z; lab = d.label }))) (vars_of vars) (with_run x run) r vars' x'
          → Ends r vars' x'
      goes t = does_as (as_assign p (ep ∙ (read_at code runs n g.0.inside).p)) (value_goes d (λ _ y. set_var true n ctx p (λ old. under ctx y)) z e t)

      pub assign_keeps : {run' : Run} {sets : Sets} → within ctx (row_at vars.labels p) ≡ false
          → Stops run 25 n run' → sets ≡ with_compared x.sets (record { tested = ctx; bound = row_at vars.labels p })
          → Ends (Err stopped) (vars_of vars) (store x.amounts sets run' x.trace x.loan)
      assign_keeps h s c = goes (keeps_var n ctx p (λ old. under ctx _) vars (omega (arith, d.used_same, u)) h s c)

      pub assign_sets : length vars.values ≡ 16 → length vars.labels ≡ 16 → within ctx (row_at vars.labels p) ≡ true
          → Ends (Ok tt) (vars_of (record { values = set vars.values p z; labels = set vars.labels p label })) (with_run x run)
      unfolding under
      assign_sets many rows h =
          let small : p < 16 = assigned runs g ep in
          goes (sets_var n ctx p (λ old. under ctx _) vars (omega (arith, d.used_same, u)) h (rw (d.joined e) (vars_stored vars p z _ (omega arith) (omega arith))))

  -- the variable p
  module _ (g : Of 26 code n) {p : ℕ} (ep : p ≡ byte code (16 * n + 1)) where
    -- as the rule has it
    abbrev raising : Lab ℤ → Lab ℤ
    raising old = record { val = old.val; lab = union old.lab (region_places (script_of code) node.a) }

    as_raise : (fuel : ℕ) → Commands code ctx who n fuel ≡ set_var true n ctx p raising
    unfolding command cmd_of
    as_raise fuel = command_is code ctx who n {y = raise node.p node.a} (rw g.1) fuel ∙ rw (ep, (read_at code runs n g.0.inside).p)

    pub raise_keeps : {run : Run} {sets : Sets} → within ctx (row_at vars.labels p) ≡ false
        → Stops x.run 25 n run → sets ≡ with_compared x.sets (record { tested = ctx; bound = row_at vars.labels p })
        → Ends (Err stopped) (vars_of vars) (store x.amounts sets run x.trace x.loan)
    raise_keeps h s c = does_as as_raise (keeps_var n ctx p raising vars u h s c)

    pub raise_sets : length vars.labels ≡ 16 → within ctx (row_at vars.labels p) ≡ true → {label : Label} → label ≡ union (row_at vars.labels p) (region_places (script_of code) (le16 code (16 * n + 2)))
        → Ends (Ok tt) (vars_of (record { values = vars.values; labels = set vars.labels p label })) x
    unfolding vars_of
    raise_sets rows h e =
        let small : p < 16 = raised runs g ep in
        does_as as_raise (sets_var n ctx p raising vars u h (rw (e, (read_at code runs n g.0.inside).a) (label_stored vars p _ (omega arith))))
