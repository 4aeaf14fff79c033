-- `start::start_labels` meets its contract: the labels of the records from `label` on are stored.
use mathlib.Core.Path.{◌≡◌, ap, ◌∙◌}
use mathlib.Core.List.{List}
use Prim.Native.Nat.{ℕ, ◌<◌}
use native.Mathlib.Omega.{arith}
use lib.ListN.{length, length-replicate}
use Rattle.places.specs.Sets.{empty}
use Rattle.label_records.proofs.Turns.{laid_out, turn_inside, turn_place}
use Rattle.start.proofs.Labels.{labelling_none, labelling_turn, labelling_done}
use Rattle.start.proofs.start_labels.Goals as goal
use Rattle.start.proofs.start_labels.Goals.{After-label_at}

pub label_section-section-requires : goal.label_section-section-requires
label_section-section-requires c = laid_out c.args.file.now c.requires.0

pub loop-label-init : goal.loop-label-init
loop-label-init c = labelling_none c.args.file.now c.requires.0 c.label_section-section.ensures c.own_labels.ensures

pub place_at-place-requires : goal.place_at-place-requires
place_at-place-requires c = turn_inside c.args.file.now c.requires.0 c.loop-label.invariant.reading (omega (arith, c.loop-label-test.true))

-- there are 512 labels
long : (c : After-label_at) → length c.loop-label.labels ≡ 512
long c = c.loop-label.auto.labels ∙ c.own_labels.auto.labels ∙ ap (λ (l : List (List ℕ)). length l) c.requires.1 ∙ length-replicate 512 (empty 8)

-- the place of a record is one of them
near : (c : After-label_at) → c.place_at-place.result < 512
near c = rw c.place_at-place.ensures (turn_place c.args.file.now c.requires.0 c.loop-label.invariant.reading (omega (arith, c.loop-label-test.true)))

pub offset_bounds-labels-place : goal.offset_bounds-labels-place
offset_bounds-labels-place c = omega (arith, near c)

pub bounds-labels-place : goal.bounds-labels-place
bounds-labels-place c = omega (arith, near c, long c)

pub loop-label-preserved : goal.loop-label-preserved
loop-label-preserved c =
    labelling_turn c.args.file.now c.requires.0 c.loop-label.invariant (omega (arith, c.loop-label-test.true)) (long c) _ _ c.place_at-place.ensures c.label_at.ensures

pub returns : goal.returns
returns c = labelling_done c.args.file.now c.requires.0 c.loop-label.invariant (omega (arith, c.loop-label-test.false))
