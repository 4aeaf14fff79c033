-- `expressions::eval`, `part` and `query` meet their contracts, by recursion over node number.
use Prim.Native.Nat.{◌+◌, ◌*◌}
use Rattle.machine.specs.Store.{cells_held, vars_of}
use Rattle.expressions.proofs.Bounds.{Bounding}
use Rattle.expressions.proofs.+eval_part_query.Given as goal

-- calls go down by node number, and of one node from `part` to `eval` and to `query`
abbrev pub decreases-eval : goal.decreases-eval
decreases-eval l = 3 * l.n + 1

abbrev pub decreases-part : goal.decreases-part
decreases-part l = 3 * l.n + 2

abbrev pub decreases-query : goal.decreases-query
decreases-query l = 3 * l.n

-- the loop over the bounds: what holds at bound i
abbrev pub invariant-query-loop-i : goal.invariant-query-loop-i
invariant-query-loop-i l =
    Bounding l.scene.script.bytes.now l.n (cells_held l.scene.amounts.now l.scene.sets.now) (vars_of l.scene.vars.now) l.initial.run l.initial.label l.i l.bounds l.run l.label
