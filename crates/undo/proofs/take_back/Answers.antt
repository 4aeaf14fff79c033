-- `undo::take_back` meets its contract: the cells of the places passed are what they were when the posting began.
use mathlib.Core.Path.{◌≡◌, sym, ◌∙◌}
use borrow.Author.Rules.{rules}
use native.Mathlib.Omega.{arith}
use Rattle.undo.proofs.Back.{back_none, back_other, back_touched, taken_back}
use Rattle.undo.proofs.take_back.Goals as goal
use Rattle.undo.proofs.take_back.Goals.{then-contains, else-contains}

pub loop-place-init : goal.loop-place-init
loop-place-init c = (omega arith, back_none _ _ c.told-amounts (omega arith))

pub loop-place-preserved : goal.loop-place-preserved
loop-place-preserved c =
    let b = c.loop-place.invariant.1 in (
      omega arith,
      elim c.if-contains.branch [
        | then-contains w ↦ rw (w.amounts-is, w.sets-is) (back_touched _ _ b c.loop-place-test.true (sym c.contains.ensures ∙ w.if-contains.true) (search rules))
        | else-contains w ↦ rw (w.amounts-is, w.sets-is) (back_other _ _ b (sym c.contains.ensures ∙ w.if-contains.false))
      ],
    )

pub returns : goal.returns
returns c =
    let e : c.loop-place.place ≡ 512 = omega arith in
    taken_back c.args.amounts.now c.args.sets.now c.eight.ensures (rw e at c.loop-place.invariant.1)
