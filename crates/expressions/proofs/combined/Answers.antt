-- `expressions::combined` meets its contract: 64 bits hold each sum and difference of 32.
use mathlib.Core.Path.{◌∙◌}
use Prim.Native.Nat.{ℕ}
use native.Mathlib.Omega.{arith}
use mir.Syntax.{w64}
use mir.Facts.{to_z-of_z}
use borrow.Author.Tests.{ne_eqb}
use Rattle.monitor.specs.Rules.{less_than}
use Rattle.queries.proofs.Tallies.{widened}
use Rattle.expressions.specs.Values.{combine}
use Rattle.expressions.proofs.Signed.{wide, sum_fits, difference_fits, told, equals_is}
use Rattle.expressions.proofs.combined.Goals as goal

pub returns-in-3 : goal.returns-in-3
unfolding combine
returns-in-3 c =
    rw (widened c.ranges.a c.from-a.ensures, widened c.ranges.b c.from-b.ensures, to_z-of_z (sum_fits c.ranges.a c.ranges.b), c.in-3.is)

pub returns-in-4 : goal.returns-in-4
unfolding combine
returns-in-4 c =
    rw (widened c.ranges.a c.from-a.ensures, widened c.ranges.b c.from-b.ensures, to_z-of_z (difference_fits c.ranges.a c.ranges.b), c.in-4.is)

pub returns-in-5 : goal.returns-in-5
unfolding combine
returns-in-5 c =
    let equal = rw (c.from-a.ensures, c.from-b.ensures, to_z-of_z c.ranges.a, to_z-of_z c.ranges.b) at c.from.ensures in
    rw (to_z-of_z {w = w64} {z = c.from.result} (record { sfits = c.from.type_inv }), c.in-5.is)
    (equal ∙ equals_is (wide c.ranges.a) (wide c.ranges.b))

pub returns-in_default : goal.returns-in_default
unfolding combine less_than
returns-in_default c =
    let kind : ℕ = c.args.kind in
    rw (to_z-of_z {w = w64} {z = c.from-in_default.result} (record { sfits = c.from-in_default.type_inv }), ne_eqb kind 3 (omega arith), ne_eqb kind 4 (omega arith), ne_eqb kind 5 (omega arith))
    (rw (widened c.ranges.a c.from-a.ensures, widened c.ranges.b c.from-b.ensures) at c.from-in_default.ensures ∙ told _)
