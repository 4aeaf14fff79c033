-- `forward::carry_forward` meets its contract: the output is touched only where the run finished.
use mathlib.Core.Path.{sym, ◌∙◌}
use borrow.Author.Tests.{not-true, not-false}
use Rattle.forward.proofs.Calls.{stays, carried}
use Rattle.forward.proofs.carry_forward.Goals as goal

pub returns-then-not-finishes : goal.returns-then-not-finishes
returns-then-not-finishes c =
    let e = c.run-answer.ensures in
    stays c.args.file.now c.args.budget _ c.args.out.now _ e (sym c.finishes.ensures ∙ not-true _ c.if-not-finishes.true-raw)

pub returns : goal.returns
returns c =
    let e = c.run-answer.ensures in
    let h = sym c.finishes.ensures ∙ not-false _ c.if-not-finishes.false-raw in
    let w = c.write-bytes.ensures in
    carried c.args.file.now c.args.budget _ c.args.out.now _ e h _ _ w.0 w.1
