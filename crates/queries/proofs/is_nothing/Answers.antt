-- `queries::is_nothing` meets its contract.
use Prim.Native.Nat.{ℕ}
use native.Mathlib.Omega.{arith}
use mir.Facts.{to_z-of_z}
use borrow.Author.Tests.{ne_eqb}
use Rattle.queries.specs.Tallies.{no_amount}
use Rattle.queries.proofs.is_nothing.Goals as goal

pub returns-in-8 : goal.returns-in-8
unfolding no_amount
returns-in-8 c = rw c.in-8.is

pub returns-in-9 : goal.returns-in-9
unfolding no_amount
returns-in-9 c = rw c.in-9.is

pub returns-in-10 : goal.returns-in-10
unfolding no_amount
returns-in-10 c = rw (to_z-of_z c.ranges.tally, c.in-10.is)

pub returns-in_default : goal.returns-in_default
unfolding no_amount
returns-in_default c =
    let kind : ℕ = c.args.kind in
    rw (to_z-of_z c.ranges.tally, ne_eqb kind 8 (omega arith), ne_eqb kind 9 (omega arith), ne_eqb kind 10 (omega arith))
