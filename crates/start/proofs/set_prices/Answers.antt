-- `start::set_prices` meets its contract: the prices of the kinds passed are stored.
use mathlib.Core.Path.{◌≡◌, ap, ◌∙◌}
use mathlib.Core.Bool.{Bool, true, false, cond}
use mathlib.Core.List.{List}
use Prim.Native.Nat.{ℕ, ◌+◌, ◌*◌, ◌≤◌, ◌<◌}
use native.Mathlib.Omega.{arith}
use lib.ListN.{length, get_or}
use borrow.Author.Rules.{rules}
use Rattle.book.specs.Bytes.{four}
use Rattle.book.specs.Kinds.{between, cost_of}
use Rattle.book.proofs.Tabulate.{tabulate_at}
use Rattle.machine.specs.Script.{prices_start}
use Rattle.start.proofs.Copies.{numbers_none, numbers_turn, le32_same, le32_stored, stored_stays}
use Rattle.start.proofs.set_prices.Goals as goal

cost_small : (kind : ℕ) → cost_of kind < 4294967296
unfolding cost_of
cost_small kind = go (between 8 11 kind)
  where
    go : (x : Bool) → cond x 4 1 < 4294967296
    go true = omega arith
    go false = omega arith

pub loop-kind-init : goal.loop-kind-init
loop-kind-init c = (search rules, numbers_none)

pub put_u32-requires : goal.put_u32-requires
put_u32-requires c =
    let l = c.before.before in
    omega (arith, l.loop-kind.invariant.1.long, l.before.before.before.requires)

pub loop-kind-preserved : goal.loop-kind-preserved
loop-kind-preserved c =
    let l = c.before.before.before.before.before.before in
    let s = l.before.before.before in
    let k : ℕ = l.loop-kind.kind in
    let code : List ℕ = l.loop-kind.code in
    let lt : k < 27 = omega (arith, c.before.before.before.before.loop-kind-test.true) in
    let here : prices_start + 4 * k ≤ length code = omega (arith, l.loop-kind.invariant.1.long, s.requires) in
    let cost = ap (λ (l : List ℕ). get_or l k 0) l.before.costs-costs.ensures ∙ tabulate_at cost_of 27 k 0 lt in
    let e = rw cost at c.before.before.put_u32.ensures in (
      omega arith,
      numbers_turn le32_same l.loop-kind.invariant.1 c.before.before.put_u32.auto.out (stored_stays code (four (cost_of k)) _ (prices_start + 4 * k) here e)
          (le32_stored code _ _ (prices_start + 4 * k) (cost_of k) here e (cost_small k)),
    )

pub returns : goal.returns
returns c =
    let l = c.before.loop-kind in
    let e : l.kind ≡ 27 = omega arith in
    (l.invariant.1.stays, rw e at l.invariant.1.are)
