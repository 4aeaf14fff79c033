-- `expressions::leaf` meets its contract.
use mathlib.Core.Path.{◌≡◌, sym, ◌∙◌}
use mathlib.Core.List.{List}
use Prim.Native.Nat.{ℕ, ◌*◌, ◌<◌}
use native.Mathlib.Omega.{arith}
use lib.IntN.{pos}
use lib.ListN.{get_or}
use mir.Syntax.{w32}
use Rattle.std.proofs.lemmas.Result.{err_from_is_err_and}
use Rattle.book.specs.Bytes.{byte}
use Rattle.book.specs.Kinds.{expression}
use Rattle.machine.specs.Script.{script_of, Runnable, Node}
use Rattle.machine.specs.Store.{vars_of}
use Rattle.machine.proofs.Nodes.{read, kind_inside, variable_p}
use Rattle.expressions.proofs.Signed.{kept}
use Rattle.expressions.proofs.Parts.{node_in, constant_gives, variable_gives}
use Rattle.expressions.proofs.Entries.{leaf_kind, stops_21, pays}
use Rattle.expressions.proofs.leaf.Goals as goal

-- ---- what the call is given, past the test of 1

module _ {code : List ℕ} {n : ℕ} (runs : Runnable code) (node : Node expression (script_of code) n) (leaf : (node_in code n).kind < 3) (not_1 : byte code (16 * n) ≡ 1 → ⊥) where
  is_2 : (node_in code n).kind ≡ 2
  is_2 = leaf_kind _ node.sort_is leaf (λ q. not_1 ((read runs node).kind ∙ q))

  variable_below : (node_in code n).p < 16
  variable_below = variable_p (script_of code) runs.sound n node.inside is_2

-- ---- its needs

pub pay-requires : goal.pay-requires
pay-requires c = kind_inside c.args.scene.now.script.runnable c.requires.0

pub returns-in_err-pay : goal.returns-in_err-pay
returns-in_err-pay c cells =
    rw (err_from_is_err_and c.from_residual.result c.from_residual.ensures.1).1
    (stops_21 c.args.scene.now.script.runnable c.requires.0 c.pay.ensures c.in_err-pay.was)

pub returns-then-kind-eq1 : goal.returns-then-kind-eq1
returns-then-kind-eq1 c cells =
    let runs = c.args.scene.now.script.runnable in
    let r = read runs c.requires.0 in
    let k = c.i32_at in
    rw (kept w32 k.result k.type_inv, k.ensures ∙ r.k)
    (pays runs c.requires.0 c.pay.ensures c.in_ok-pay.was
    (constant_gives c.args.scene.now.script.bytes.now c.args.n (sym r.kind ∙ c.if-kind-eq1.true) c.told-label))

pub bounds-vars-p : goal.bounds-vars-p
bounds-vars-p c =
    let runs = c.args.scene.now.script.runnable in
    rw (c.byte_at-p.ensures.0 ∙ (read runs c.requires.0).p) (variable_below runs c.requires.0 c.requires.1 c.if-kind-eq1.false)

pub bounds-vars-p-2 : goal.bounds-vars-p-2
bounds-vars-p-2 c =
    let runs = c.args.scene.now.script.runnable in
    rw (c.byte_at-p.ensures.0 ∙ (read runs c.requires.0).p) (variable_below runs c.requires.0 c.requires.1 c.if-kind-eq1.false)

pub returns : goal.returns
unfolding vars_of
returns c cells =
    let runs = c.args.scene.now.script.runnable in
    let v = get_or c.args.scene.now.vars.now.values c.byte_at-p.result (pos 0) in
    rw (kept w32 v (omega arith), c.join.ensures, c.byte_at-p.ensures.0 ∙ (read runs c.requires.0).p)
    (pays runs c.requires.0 c.pay.ensures c.in_ok-pay.was
    (variable_gives c.args.scene.now.script.bytes.now c.args.n (is_2 runs c.requires.0 c.requires.1 c.if-kind-eq1.false)))
