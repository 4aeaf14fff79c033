-- An expression node of a script that is run, as the code that evaluates it meets it. Assumes nothing.
use mathlib.Core.Path.{◌≡◌, refl, sym, ap, ◌∙◌}
use mathlib.Core.List.{List}
use mathlib.Core.Bool.{Bool, true, false, cond, ◌||◌}
use Prim.Native.Nat.{ℕ, zero, suc, ◌+◌, ◌*◌, ◌≤◌, ◌<◌}
use native.Mathlib.Decide.{ℕ_discrete}
use native.Mathlib.Omega.{arith}
use lib.IntN.{ℤ}
use borrow.Author.Tests.{le-leb, lt-leb}
use Rattle.book.specs.Bytes.{byte, le16}
use Rattle.book.specs.Kinds.{expression, between, cost_of, sort_of}
use Rattle.monitor.specs.Labelled.{Label, Lab}
use Rattle.monitor.specs.Run.{Cell}
use Rattle.machine.specs.Script.{script_of, Runnable, Node}
use Rattle.machine.specs.Promises.{Pays, Gives, Evaluates, Expresses, Value, Outcome, stopped}
use Rattle.machine.specs.declared.lent.Run.{Run}
use Rattle.std.specs.Prelude.{Ok, Err}
use Rattle.machine.proofs.Nodes.{read, Child, query_a, query_b, query_c, query_d}
use Rattle.expressions.proofs.Steps.{unpaid, paid}
use Rattle.expressions.proofs.Parts.{node_in}
use Rattle.expressions.proofs.Bounds.{bound_of}

-- the kinds of expressions, by the tests that tell them apart
expression_kind : (kind : ℕ) → sort_of kind ≡ expression → (between 1 6 kind || between 8 11 kind) ≡ true
unfolding sort_of
expression_kind kind e = go (between 1 6 kind || between 8 11 kind) (between 16 26 kind) e
  where
    go : (x y : Bool) → cond x expression (cond y 2 0) ≡ expression → x ≡ true
    go true y q = refl
    go false true q = absurd (omega arith)
    go false false q = absurd (omega arith)

-- a kind below 3 that is not 1 is 2, one from 3 to 6 has two parts, and the others are queries
pub leaf_kind : (kind : ℕ) → sort_of kind ≡ expression → kind < 3 → (kind ≡ 1 → ⊥) → kind ≡ 2
unfolding sort_of
leaf_kind kind e h p = go (ℕ_discrete kind 0)
  where
    go : Dec (kind ≡ 0) → kind ≡ 2
    go (yes z) = absurd (omega (arith, ap sort_of (sym z) ∙ e))
    go (no z) = omega (arith, z, p)

pub pair_kind : (kind : ℕ) → 3 ≤ kind → kind ≤ 6 → between 3 6 kind ≡ true
pair_kind kind low high = rw (le-leb 3 kind low, le-leb kind 6 high)

pub query_kind : (kind : ℕ) → sort_of kind ≡ expression → 7 ≤ kind → between 8 11 kind ≡ true
query_kind kind e h = rw (le-leb 1 kind (omega arith), lt-leb kind 6 (omega arith)) at (expression_kind kind e)

-- an expression of the script
module _ {code : List ℕ} {n : ℕ} (runs : Runnable code) (node : Node expression (script_of code) n) where
  -- the cost of its kind, as it was read
  module _ {cells : ℕ → Lab Cell} {vars : ℕ → Lab ℤ} {run : Run} {o : Outcome} {run₁ : Run} {before after : Label} (p : Pays run (cost_of (byte code (16 * n))) n o run₁) where
    pub stops_21 : o ≡ Err stopped → Gives (Evaluates code n) cells vars run before (Err stopped) run₁ after
    stops_21 e = unpaid code n (rw (read runs node).kind at (p.short e))

    pub pays : {r : Value} {run' : Run} → o ≡ Ok tt → Gives (Expresses code n) cells vars run₁ before r run' after → Gives (Evaluates code n) cells vars run before r run' after
    pays e g = paid code n (rw (read runs node).kind at (p.paid e)) g

  -- bound i of a query, by its two bytes
  pub bound_read : between 8 11 (node_in code n).kind ≡ true → (i : ℕ) → i < 4
      → (le16 code (16 * n + 2 + 2 * i) ≡ bound_of (node_in code n) i) × Child expression (script_of code) n (bound_of (node_in code n) i)
  unfolding bound_of
  bound_read e zero h = (ap (le16 code) (omega arith) ∙ (read runs node).a, query_a (script_of code) runs.sound n node.inside e)
  bound_read e (suc zero) h = (ap (le16 code) (omega arith) ∙ (read runs node).b, query_b (script_of code) runs.sound n node.inside e)
  bound_read e (suc (suc zero)) h = (ap (le16 code) (omega arith) ∙ (read runs node).c, query_c (script_of code) runs.sound n node.inside e)
  bound_read e (suc (suc (suc zero))) h = (ap (le16 code) (omega arith) ∙ (read runs node).d, query_d (script_of code) runs.sound n node.inside e)
  bound_read e (suc (suc (suc (suc i)))) h = absurd (omega arith)
