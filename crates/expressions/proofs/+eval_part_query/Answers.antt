-- `expressions::eval`, `part` and `query` meet their contracts, by recursion over node number.
use mathlib.Core.Path.{◌≡◌, ◌∙◌}
use mathlib.Core.Bool.{true}
use mathlib.Core.List.{List}
use Prim.Native.Nat.{ℕ, ◌+◌, ◌*◌, ◌≤◌, ◌<◌, ◌^◌}
use native.Mathlib.Omega.{arith}
use lib.IntN.{ℤ}
use lib.Signed.{mag}
use mir.Syntax.{w32, w64}
use mir.Val.{to_z, of_z}
use Rattle.places.specs.Sets.{union}
use Rattle.book.specs.Bytes.{byte, le16}
use Rattle.book.specs.Kinds.{expression, between, cost_of}
use Rattle.monitor.specs.Labelled.{Label, Lab}
use Rattle.monitor.specs.Run.{Cell}
use Rattle.machine.specs.Script.{script_of, Runnable, Node}
use Rattle.machine.specs.Promises.{Pays, Gives, Evaluates, Expresses, Value, Outcome}
use Rattle.machine.specs.declared.lent.Run.{Run}
use Rattle.std.specs.Prelude.{Ok}
use Rattle.std.proofs.lemmas.Result.{err_from_is_err_and}
use Rattle.machine.proofs.Nodes.{read, kind_inside, Child, pair_a, pair_b, query_p}
use Rattle.queries.specs.declared.Found.{Found}
use Rattle.queries.specs.Found.{box_in, found_in}
use Rattle.expressions.specs.Values.{combine}
use Rattle.expressions.proofs.Signed.{kept}
use Rattle.expressions.proofs.Steps.{Held, converted, unconverted, Answered, exact_answered, nothing_answered}
use Rattle.expressions.proofs.Parts.{node_in, first_stops, second_stops, combines}
use Rattle.expressions.proofs.Bounds.{Bounding, bounding_starts, bounding_stops, bounding_turns, bounding_ends}
use Rattle.expressions.proofs.Entries.{pair_kind, query_kind, stops_21, pays, bound_read}
use Rattle.expressions.proofs.+eval_part_query.Goals as goal

-- ---- a node of `eval` that is neither a leaf nor a query

module _ {code : List ℕ} {n : ℕ} (runs : Runnable code) (node : Node expression (script_of code) n) (low : 3 ≤ byte code (16 * n)) (high : byte code (16 * n) ≤ 6) where
  is_pair : between 3 6 (node_in code n).kind ≡ true
  is_pair =
      let r = read runs node in
      pair_kind (node_in code n).kind (omega (arith, r.kind)) (omega (arith, r.kind))

  -- its parts, as they are read
  child_a : Child expression (script_of code) n (node_in code n).a
  child_a = pair_a (script_of code) runs.sound n node.inside is_pair

  child_b : Child expression (script_of code) n (node_in code n).b
  child_b = pair_b (script_of code) runs.sound n node.inside is_pair

  -- both parts, and their value held to 32 bits
  module _ {cells : ℕ → Lab Cell} {vars : ℕ → Lab ℤ} {run run₁ run₂ run₃ : Run} {l₀ l₁ l₂ : Label} {o : Outcome} (p : Pays run (cost_of (byte code (16 * n))) n o run₁) (done : o ≡ Ok tt) {a b : ℕ} {first second : Value} where
    pair_gives : a ≡ le16 code (16 * n + 2) → Gives (Evaluates code a) cells vars run₁ l₀ first run₂ l₁ → {x : ℤ} → first ≡ Ok x → mag x < 2 ^ 31
        → b ≡ le16 code (16 * n + 4) → Gives (Evaluates code b) cells vars run₂ l₁ second run₃ l₂ → {y : ℤ} → second ≡ Ok y → mag y < 2 ^ 31
        → {z : ℤ} → z ≡ combine (byte code (16 * n)) (to_z w32 (of_z w32 x)) (to_z w32 (of_z w32 y))
        → {r : Value} {run' : Run} → Held n z run₃ r run' → Gives (Evaluates code n) cells vars run l₀ r run' l₂
    pair_gives is_a f {x} is_x small_x is_b g {y} is_y small_y is_z h =
        let r = read runs node in
        let exact : _ ≡ combine (node_in code n).kind x y = is_z ∙ λ i. combine (r.kind i) (kept w32 x small_x i) (kept w32 y small_y i) in
        pays runs node p done
        (combines code n is_pair (rw (is_a ∙ r.a) at f) is_x (rw (is_b ∙ r.b) at g) is_y (rw exact at h))

-- ---- the goals of `eval`

pub eval-leaf-requires : goal.eval-leaf-requires
eval-leaf-requires t c = (c.requires, omega (arith, c.if-kind-lt3.true, (read c.args.scene.now.script.runnable c.requires).kind))

pub eval-pay-requires : goal.eval-pay-requires
eval-pay-requires t c = kind_inside c.args.scene.now.script.runnable c.requires

pub eval-returns-in_err-pay : goal.eval-returns-in_err-pay
eval-returns-in_err-pay t c =
    rw (err_from_is_err_and c.from_residual.result c.from_residual.ensures.1).1
    (stops_21 c.args.scene.now.script.runnable c.requires c.pay.ensures c.in_err-pay.was)

pub eval-query-requires : goal.eval-query-requires
eval-query-requires t c =
    let e = query_kind (node_in c.args.scene.now.script.bytes.now c.args.n).kind c.requires.sort_is (omega (arith, c.if-kind-gt6.true, (read c.args.scene.now.script.runnable c.requires).kind)) in
    (omega (arith, c.decreases), (c.requires, e))

pub eval-returns-then-kind-gt6 : goal.eval-returns-then-kind-gt6
eval-returns-then-kind-gt6 t c = pays c.args.scene.now.script.runnable c.requires c.pay.ensures c.in_ok-pay.was c.query.ensures

pub eval-part-requires : goal.eval-part-requires
eval-part-requires t c =
    let child = child_a c.args.scene.now.script.runnable c.requires c.if-kind-lt3.false c.if-kind-gt6.false in
    let is_a = c.u16_at-a.ensures.0 ∙ (read c.args.scene.now.script.runnable c.requires).a in
    (omega (arith, c.decreases, is_a, child.lower), rw is_a child.node)

pub eval-returns-in_default : goal.eval-returns-in_default
eval-returns-in_default t c =
    let f = rw (c.u16_at-a.ensures.0 ∙ (read c.args.scene.now.script.runnable c.requires).a) at c.part.ensures in
    pays c.args.scene.now.script.runnable c.requires c.pay.ensures c.in_ok-pay.was
    (first_stops c.args.scene.now.script.bytes.now c.args.n (is_pair c.args.scene.now.script.runnable c.requires c.if-kind-lt3.false c.if-kind-gt6.false) f c.in_default.is)

pub eval-part-requires-2 : goal.eval-part-requires-2
eval-part-requires-2 t c =
    let child = child_b c.args.scene.now.script.runnable c.requires c.if-kind-lt3.false c.if-kind-gt6.false in
    let is_b = c.u16_at-b.ensures.0 ∙ (read c.args.scene.now.script.runnable c.requires).b in
    (omega (arith, c.decreases, is_b, child.lower), rw is_b child.node)

pub eval-returns-in_default-part : goal.eval-returns-in_default-part
eval-returns-in_default-part t c =
    let r = read c.args.scene.now.script.runnable c.requires in
    let f = rw (c.u16_at-a.ensures.0 ∙ r.a) at c.part.ensures in
    let g = rw (c.u16_at-b.ensures.0 ∙ r.b) at c.part-2.ensures in
    pays c.args.scene.now.script.runnable c.requires c.pay.ensures c.in_ok-pay.was
    (second_stops c.args.scene.now.script.bytes.now c.args.n (is_pair c.args.scene.now.script.runnable c.requires c.if-kind-lt3.false c.if-kind-gt6.false) f c.in-Ok.is g c.in_default-part.is)

pub eval-returns-in_default-try_from : goal.eval-returns-in_default-try_from
eval-returns-in_default-try_from t c =
    let converts = rw (kept w64 c.combined-exact.result c.combined-exact.type_inv) at c.try_from.ensures in
    pair_gives c.args.scene.now.script.runnable c.requires c.if-kind-lt3.false c.if-kind-gt6.false c.pay.ensures c.in_ok-pay.was
    c.u16_at-a.ensures.0 c.part.ensures c.in-Ok.is (omega arith) c.u16_at-b.ensures.0 c.part-2.ensures c.in-Ok-part.is (omega arith) c.combined-exact.ensures
    (unconverted converts c.in_default-try_from.is c.stop.ensures)

pub eval-returns : goal.eval-returns
eval-returns t c =
    let converts = rw (kept w64 c.combined-exact.result c.combined-exact.type_inv) at c.try_from.ensures in
    pair_gives c.args.scene.now.script.runnable c.requires c.if-kind-lt3.false c.if-kind-gt6.false c.pay.ensures c.in_ok-pay.was
    c.u16_at-a.ensures.0 c.part.ensures c.in-Ok.is (omega arith) c.u16_at-b.ensures.0 c.part-2.ensures c.in-Ok-part.is (omega arith) c.combined-exact.ensures
    (converted converts c.in-Ok-try_from.is)

-- ---- the goals of `part`

pub part-leaf-requires : goal.part-leaf-requires
part-leaf-requires t c = (c.requires, omega (arith, c.if-bytes-n-gt2.false, (read c.args.scene.now.script.runnable c.requires).kind))

-- ---- a node of `query`: past its bounds, the cells in the box, and what they give

module _ {code : List ℕ} {n : ℕ} (runs : Runnable code) (node : Node expression (script_of code) n) where
  query_gives : {cells : ℕ → Lab Cell} {vars : ℕ → Lab ℤ} {run run₁ : Run} {l₀ l₁ l₂ : Label} {i : ℕ} {bounds : List ℤ} → Bounding code n cells vars run l₀ i bounds run₁ l₁
      → 4 ≤ i → {p : ℕ} → p ≡ byte code (16 * n + 1) → {query : Found} → query ≡ found_in (byte code (16 * n)) cells (box_in bounds) p → l₂ ≡ union l₁ query.label
      → {r : Value} {run' : Run} → Answered n query.amount run₁ r run' → Gives (Expresses code n) cells vars run l₀ r run' l₂
  query_gives b past is_p is_query joined h =
      let r = read runs node in
      rw joined (bounding_ends code n b past (rw (r.kind, is_p ∙ r.p) at is_query) h)

-- ---- the goals of `query`

pub query-loop-i-init : goal.query-loop-i-init
query-loop-i-init t c = bounding_starts c.args.scene.now.script.bytes.now c.args.n c.requires.1

pub query-part-requires : goal.query-part-requires
query-part-requires t c =
    let bound = bound_read c.args.scene.now.script.runnable c.requires.0 c.requires.1 _ c.loop-i-test.true in
    let is_bound = c.u16_at-child.ensures.0 ∙ bound.0 in
    (omega (arith, c.decreases, is_bound, bound.1.lower), rw is_bound bound.1.node)

pub query-returns-in_default : goal.query-returns-in_default
query-returns-in_default t c =
    let bound = bound_read c.args.scene.now.script.runnable c.requires.0 c.requires.1 _ c.loop-i-test.true in
    let g = rw (c.u16_at-child.ensures.0 ∙ bound.0) at c.part.ensures in
    bounding_stops c.args.scene.now.script.bytes.now c.args.n c.loop-i.invariant c.loop-i-test.true g c.in_default.is

pub query-loop-i-preserved : goal.query-loop-i-preserved
query-loop-i-preserved t c =
    let bound = bound_read c.args.scene.now.script.runnable c.requires.0 c.requires.1 _ c.loop-i-test.true in
    let g = rw (c.u16_at-child.ensures.0 ∙ bound.0) at c.part.ensures in
    rw (kept w32 c.in-Ok.bound (omega arith))
    (bounding_turns c.args.scene.now.script.bytes.now c.args.n c.loop-i.invariant c.loop-i-test.true g c.in-Ok.is)

pub query-query-found-requires : goal.query-query-found-requires
query-query-found-requires t c =
    rw (c.byte_at-table.ensures.0 ∙ (read c.args.scene.now.script.runnable c.requires.0).p) (query_p (script_of c.args.scene.now.script.bytes.now) c.args.scene.now.script.runnable.sound c.args.n c.requires.0.inside c.requires.1)

pub query-returns-in_default-amount : goal.query-returns-in_default-amount
query-returns-in_default-amount t c =
    query_gives c.args.scene.now.script.runnable c.requires.0 c.loop-i.invariant c.loop-i-test.false c.byte_at-table.ensures.0 c.query-found.ensures c.join.ensures
    (nothing_answered c.in_default-amount.is c.stop.ensures)

pub query-returns-in_default-try_from : goal.query-returns-in_default-try_from
query-returns-in_default-try_from t c =
    let converts = rw (kept w64 c.in-Some.exact (omega arith)) at c.try_from.ensures in
    query_gives c.args.scene.now.script.runnable c.requires.0 c.loop-i.invariant c.loop-i-test.false c.byte_at-table.ensures.0 c.query-found.ensures c.join.ensures
    (exact_answered c.in-Some.is (unconverted converts c.in_default-try_from.is c.stop-in_default-try_from.ensures))

pub query-returns : goal.query-returns
query-returns t c =
    let converts = rw (kept w64 c.in-Some.exact (omega arith)) at c.try_from.ensures in
    query_gives c.args.scene.now.script.runnable c.requires.0 c.loop-i.invariant c.loop-i-test.false c.byte_at-table.ensures.0 c.query-found.ensures c.join.ensures
    (exact_answered c.in-Some.is (converted converts c.in-Ok-try_from.is))
