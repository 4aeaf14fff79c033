-- `trailer::pair_at` meets its contract.
use borrow.Author.Tests.{eq-eqb, ne_eqb}
use native.Mathlib.Omega.{arith}
use Rattle.trailer.proofs.pair_at.Goals as goal

pub overflow_sub-result : goal.overflow_sub-result
overflow_sub-result c = omega arith

pub returns-then-i-eq6 : goal.returns-then-i-eq6
returns-then-i-eq6 c = (rw (eq-eqb c.before.args.i 6 c.if-i-eq6.true), omega arith)

pub returns-else-i-eq6 : goal.returns-else-i-eq6
returns-else-i-eq6 c = (rw (ne_eqb c.before.args.i 6 c.if-i-eq6.false) (omega arith), omega arith)
