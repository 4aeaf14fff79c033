-- `runner::store_cells` meets its contract: the labels of the cells passed are stored.
use mathlib.Core.Path.{◌≡◌, refl, sym, ◌∙◌, subst}
use native.Mathlib.Omega.{arith}
use lib.Seq.{take_all}
use Rattle.places.specs.Sets.{Words}
use Rattle.monitor.specs.Call.{labels_in}
use Rattle.monitor.proofs.Memory.{Sizes}
use Rattle.machine.specs.Store.{cells_held}
use Rattle.runner.proofs.Stored.{labels_turn, amounts_left, presence_left}
use Rattle.runner.proofs.store_cells.Goals as goal

pub copy-requires : goal.copy-requires
copy-requires c = omega (arith, c.requires.amounts_are, c.copy-arg-1.given)

pub copy-requires-2 : goal.copy-requires-2
copy-requires-2 c = omega (arith, c.requires.presence_is, c.copy-arg-3-1.given)

pub loop-place-init : goal.loop-place-init
unfolding labels_in
loop-place-init c = (c.requires.labels_are, refl)

pub set_label-requires : goal.set_label-requires
set_label-requires c = omega (arith, c.loop-place.invariant.0)

pub loop-place-preserved : goal.loop-place-preserved
unfolding cells_held
loop-place-preserved c =
    let l = c.loop-place in
    let set = c.set_label in (
      set.auto.labels ∙ l.invariant.0,
      labels_turn (cells_held c.args.store.now.amounts c.args.store.now.sets) l.labels _ l.place (omega (arith, l.invariant.0)) l.invariant.1 set.ensures set.auto.labels,
    )

pub returns : goal.returns
returns c =
    let l = c.loop-place in
    let place : l.place ≡ 512 = omega (arith, c.loop-place-test.false, l.auto.place-end) in
    let is = c.copy-2.ensures in
    let sizes : Sizes c.args.store.now.amounts c.args.store.now.sets.present l.labels = record {
      amounts_are = omega (arith, c.copy-arg-1.given);
      presence_is = omega (arith, c.copy-arg-3-1.given);
      labels_are = l.invariant.0;
      words = subst Words is (record { fits = λ i. (c.type_inv.presence i).fits });
    } in (
      c.copy.ensures ∙ amounts_left c.args.store.now.amounts c.args.store.now.sets l.labels sizes,
      is ∙ presence_left c.args.store.now.amounts c.args.store.now.sets l.labels sizes,
      sym (take_all 4096 l.labels (omega (arith, l.invariant.0))) ∙ rw place at l.invariant.1,
    )
