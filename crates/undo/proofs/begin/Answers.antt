-- `undo::begin` meets its contract.
use mathlib.Core.Bool.{true≢false}
use Rattle.undo.proofs.Undo.{begins}
use Rattle.undo.proofs.begin.Goals as goal

pub returns : goal.returns
returns c = (rw c.if-sets.false, λ e. begins c.args.sets.now, λ e. absurd (true≢false e))
