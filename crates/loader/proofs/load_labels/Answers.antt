-- `loader::load_labels` meets its contract: the labels of the records from `label` on are set.
use Prim.Native.Nat.{◌+◌, ◌-◌, ◌*◌, ◌≤◌, ◌<◌}
use lib.ListN.{length}
use Rattle.label_records.proofs.Turns.{laid_out, turn_inside, turn_place}
use Rattle.loader.proofs.Labels.{labelling_length, labelling_none, labelling_turn, labelling_done}
use native.Mathlib.Omega.{arith}
use Rattle.loader.proofs.load_labels.Goals as goal
use Rattle.loader.proofs.load_labels.Tie as tie
use Rattle.loader.proofs.load_labels.Lts as lts
use Rattle.loader.proofs.load_labels.Reads as reads

pub label_section-section-requires : goal.label_section-section-requires
label_section-section-requires c =
    let s = c.before.before.before.before.before.before.before in
    laid_out s.args.file.now s.requires.0

pub loop-label-init : goal.loop-label-init
loop-label-init c =
    let s = c.before.before.before.before.before.before.before.before in
    labelling_none s.args.file.now s.requires.0 c.label_section-section.ensures c.before.before.before.own_labels.ensures

-- a record is left
more : (c : lts.In-loop tie.the-claims reads.Pre reads.Post goal.the-invariant-loop-label goal.the-decreases-loop-label) → 0 < c.before.loop-label.label
more c = omega (arith, c.loop-label-test.true)

-- the record at the loop's turn lies in the file
inside : (c : lts.In-loop tie.the-claims reads.Pre reads.Post goal.the-invariant-loop-label goal.the-decreases-loop-label)
    → c.before.before.label_section-section.result.start + (c.before.loop-label.label - 1) * 66 + 66 ≤ length c.before.before.before.before.before.before.before.before.before.args.file.now
inside c =
    let s = c.before.before.before.before.before.before.before.before.before in
    turn_inside s.args.file.now s.requires.0 c.before.loop-label.invariant.reading (more c)

pub overflow_mul-at : goal.overflow_mul-at
overflow_mul-at c = omega (arith, inside c.before)

pub overflow_add-at : goal.overflow_add-at
overflow_add-at c = omega (arith, inside c.before)

pub place_at-place-requires : goal.place_at-place-requires
place_at-place-requires c = inside c.before

pub label_at-requires : goal.label_at-requires
label_at-requires c = inside c.before.before.before

pub set_label-requires : goal.set_label-requires
set_label-requires c =
    let l = c.before.before.before.before in
    let s = l.before.before.before.before.before.before.before.before.before in
    omega (arith, c.before.before.place_at-place.ensures, turn_place s.args.file.now s.requires.0 l.before.loop-label.invariant.reading (more l), labelling_length l.before.loop-label.invariant)

pub loop-label-preserved : goal.loop-label-preserved
loop-label-preserved c =
    let l = c.before.before.before.before.before.before.before in
    let s = l.before.before.before.before.before.before.before.before.before in
    rw c.before.before.set_label.ensures
    (labelling_turn s.args.file.now s.requires.0 l.before.loop-label.invariant (more l) _ _
    c.before.before.before.before.before.place_at-place.ensures
    c.before.before.before.label_at.ensures)

pub shape_of-labels : goal.shape_of-labels
shape_of-labels c =
    let s = c.before.before.before.before.before.before.before.before.before.before in
    omega (arith, labelling_length c.before.loop-label.invariant, s.requires.1)

pub returns : goal.returns
returns c =
    let s = c.before.before.before.before.before.before.before.before.before.before in
    labelling_done s.args.file.now s.requires.0 c.before.loop-label.invariant (omega arith)
