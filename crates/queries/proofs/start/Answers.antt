-- `queries::start` meets its contract.
use Prim.Native.Nat.{ℕ}
use native.Mathlib.Omega.{arith}
use borrow.Author.Tests.{ne_eqb}
use Rattle.queries.specs.Tallies.{start_of}
use Rattle.queries.proofs.start.Goals as goal

pub returns-in-8 : goal.returns-in-8
unfolding start_of
returns-in-8 c = rw c.in-8.is

pub returns-in-9 : goal.returns-in-9
unfolding start_of
returns-in-9 c = rw c.in-9.is

pub returns-in-10 : goal.returns-in-10
unfolding start_of
returns-in-10 c = rw c.in-10.is

pub returns-in_default : goal.returns-in_default
unfolding start_of
returns-in_default c =
    let kind : ℕ = c.args.kind in
    rw (ne_eqb kind 8 (omega arith), ne_eqb kind 9 (omega arith), ne_eqb kind 10 (omega arith))
