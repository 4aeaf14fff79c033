-- `commands::decide` meets its contract.
use mathlib.Core.Path.{◌≡◌, sym, ap, ◌∙◌}
use mathlib.Core.List.{List}
use mathlib.Core.Bool.{true}
use Prim.Native.Nat.{ℕ}
use native.Mathlib.Decide.{ℕ_discrete}
use native.Mathlib.Omega.{arith}
use lib.Dec.{leb}
use lib.IntN.{ℤ}
use borrow.Author.Tests.{leb-true, ne_eqb}
use Rattle.std.specs.Prelude.{Ok, Some}
use Rattle.book.specs.Kinds.{expression, command, between}
use Rattle.book.specs.Refusals.{node_at}
use Rattle.book.proofs.Chains.{both}
use Rattle.monitor.specs.Labelled.{Label, Lab}
use Rattle.monitor.specs.Run.{Cell}
use Rattle.machine.specs.Script.{script_of, Runnable, Node}
use Rattle.machine.specs.Promises.{Value, Gives, Evaluates}
use Rattle.machine.specs.declared.lent.Run.{Run}
use Rattle.machine.proofs.Nodes.{read, if_a, while_a}
use Rattle.commands.specs.Parts.{Next, leads, Decides}
use Rattle.commands.proofs.Numbers.{zero_bits, other_bits}
use Rattle.commands.proofs.decide.Goals as goal

-- the test is an expression
test_node : (code : List ℕ) (n : ℕ) → Runnable code → Node command (script_of code) n → between 19 20 (node_at (script_of code) n).kind ≡ true
    → Node expression (script_of code) (node_at (script_of code) n).a
test_node code n v h e = go (ℕ_discrete (node_at (script_of code) n).kind 19)
  where
    go : Dec ((node_at (script_of code) n).kind ≡ 19) → Node expression (script_of code) (node_at (script_of code) n).a
    go (yes q) = (if_a (script_of code) v.sound n h.inside q).node
    go (no d) =
        let sides = both (leb 19 (node_at (script_of code) n).kind) _ e in
        let low = leb-true 19 (node_at (script_of code) n).kind sides.0 in
        let high = leb-true (node_at (script_of code) n).kind 20 sides.1 in
        (while_a (script_of code) v.sound n h.inside (omega (arith, low, high, d))).node

-- an evaluation of the node's field a
decided : {code : List ℕ} {n a : ℕ} {cells : ℕ → Lab Cell} {vars : ℕ → Lab ℤ} {run run' : Run} {before after : Label} {v : Value} {r : Next}
    → a ≡ (node_at (script_of code) n).a → Gives (Evaluates code a) cells vars run before v run' after → r ≡ leads (node_at (script_of code) n) v
    → Decides code n cells vars run before r run' after
decided {v = v} e g l = record { answer = v; gives = rw e at g; is = l }

-- ---- the goals

pub eval-requires : goal.eval-requires
eval-requires c =
    let script = c.args.scene.now.script in
    rw (c.u16_at-a.ensures.0 ∙ (read script.runnable c.requires.0).a) (test_node _ _ script.runnable c.requires.0 c.requires.1)

pub returns-in_default : goal.returns-in_default
unfolding leads
returns-in_default c =
    let script = c.args.scene.now.script in
    decided (c.u16_at-a.ensures.0 ∙ (read script.runnable c.requires.0).a) c.eval.ensures (sym (ap (leads (node_at (script_of script.bytes.now) c.args.n)) c.in_default.is))

pub returns-then-value-ne0 : goal.returns-then-value-ne0
unfolding leads
returns-then-value-ne0 c =
    let r = read c.args.scene.now.script.runnable c.requires.0 in
    decided (c.u16_at-a.ensures.0 ∙ r.a) c.eval.ensures
    (rw (c.in-Ok.is, other_bits _ c.if-value-ne0.true) (ap (λ (j : ℕ). Ok (Some j)) (c.u16_at.ensures.0 ∙ r.b)))

pub returns-then-bytes-at-eq20 : goal.returns-then-bytes-at-eq20
unfolding leads
returns-then-bytes-at-eq20 c =
    let r = read c.args.scene.now.script.runnable c.requires.0 in
    decided (c.u16_at-a.ensures.0 ∙ r.a) c.eval.ensures
    (rw (c.in-Ok.is, zero_bits c.in-Ok.value (omega arith) c.if-value-ne0.false, sym r.kind ∙ c.if-bytes-at-eq20.true))

pub returns : goal.returns
unfolding leads
returns c =
    let r = read c.args.scene.now.script.runnable c.requires.0 in
    decided (c.u16_at-a.ensures.0 ∙ r.a) c.eval.ensures
    (rw (c.in-Ok.is, zero_bits c.in-Ok.value (omega arith) c.if-value-ne0.false, ne_eqb _ 20 (λ e. c.if-bytes-at-eq20.false (r.kind ∙ e)))
    (ap (λ (j : ℕ). Ok (Some j)) (c.u16_at-2.ensures.0 ∙ r.c)))
