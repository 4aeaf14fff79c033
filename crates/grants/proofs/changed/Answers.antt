-- `grants::changed` meets its contract.
use mathlib.Core.Path.{◌≡◌, ap, ◌∙◌}
use native.Mathlib.Omega.{arith}
use borrow.Author.Tests.{ne_eqb}
use lib.Dec.{eqb}
use Rattle.monitor.specs.Run.{update}
use Rattle.monitor.specs.Call.{rows}
use Rattle.machine.proofs.Stores.{rows_stored}
use Rattle.grants.specs.Rights.{altered}
use Rattle.grants.proofs.changed.Goals as goal
use Rattle.grants.proofs.changed.Goals.{then-kind-eq24, else-kind-eq24}

pub returns : goal.returns
unfolding rows
returns c =
    let a = c.args in
    let next : c.if-kind-eq24.next ≡ altered (eqb a.kind 24) (rows a.sets a.user) a.region =
    elim c.if-kind-eq24.branch [
      | then-kind-eq24 w ↦ rw w.if-kind-eq24.true (w.next-is ∙ w.union.ensures)
      | else-kind-eq24 w ↦ rw (ne_eqb a.kind 24 w.if-kind-eq24.false) (w.next-is ∙ w.difference.ensures)
    ] in
    rows_stored a.sets a.user _ (omega arith) ∙ ap (update (rows a.sets) a.user) next
