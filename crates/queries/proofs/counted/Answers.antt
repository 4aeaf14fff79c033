-- `queries::counted` meets its contract.
use mathlib.Core.Path.{◌≡◌}
use Prim.Native.Nat.{ℕ, ◌^◌, ◌<◌}
use native.Mathlib.Omega.{arith}
use lib.IntN.{ℤ, pos, ◌+ℤ◌}
use lib.Signed.{mag}
use borrow.Author.Tests.{ne_eqb}
use mir.Syntax.{w64}
use mir.Val.{SFits}
use mir.Facts.{to_z-of_z}
use Rattle.queries.specs.Tallies.{with_amount}
use Rattle.queries.proofs.Tallies.{mag_sum, widened}
use Rattle.queries.proofs.counted.Goals as goal

sum_fits : (t z : ℤ) → mag t < 2 ^ 62 → mag z < 2147483648 → SFits w64 (t +ℤ z)
sum_fits t z g h = record { sfits = omega (arith, mag_sum t z) }

pub overflow_add-result : goal.overflow_add-result
overflow_add-result c = rw (to_z-of_z c.ranges.tally) (sum_fits c.args.tally (pos 1) c.requires (omega arith))

pub overflow_add-result-else-kind-eq8 : goal.overflow_add-result-else-kind-eq8
overflow_add-result-else-kind-eq8 c =
    rw (to_z-of_z c.ranges.tally, widened c.ranges.amount c.from-value.ensures) (sum_fits c.args.tally c.args.amount c.requires c.ranges.amount.sfits)

pub returns-then-kind-eq8 : goal.returns-then-kind-eq8
unfolding with_amount
returns-then-kind-eq8 c =
    rw (to_z-of_z c.ranges.tally, to_z-of_z (sum_fits c.args.tally (pos 1) c.requires (omega arith)), c.if-kind-eq8.true)

pub returns-else-kind-eq8 : goal.returns-else-kind-eq8
unfolding with_amount
returns-else-kind-eq8 c =
    let nine : c.args.kind ≡ 9 = omega (arith, c.if-kind-eq4.true, c.if-kind-eq8.false) in
    rw (to_z-of_z c.ranges.tally, widened c.ranges.amount c.from-value.ensures, to_z-of_z (sum_fits c.args.tally c.args.amount c.requires c.ranges.amount.sfits), nine)

pub returns-then-kind-eq10 : goal.returns-then-kind-eq10
unfolding with_amount
returns-then-kind-eq10 c =
    rw (to_z-of_z {w = w64} (record { sfits = c.min.type_inv }), c.if-kind-eq10.true)
    (rw (to_z-of_z c.ranges.tally, widened c.ranges.amount c.from-value.ensures) at c.min.ensures.value)

pub returns : goal.returns
unfolding with_amount
returns c =
    let kind : ℕ = c.args.kind in
    rw (to_z-of_z {w = w64} (record { sfits = c.max.type_inv }), ne_eqb kind 8 (omega arith), ne_eqb kind 9 (omega arith), ne_eqb kind 10 (omega arith))
    (rw (to_z-of_z c.ranges.tally, widened c.ranges.amount c.from-value.ensures) at c.max.ensures.value)
