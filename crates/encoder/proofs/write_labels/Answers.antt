-- `encoder::write_labels` meets its contract: of the cells below `cell` the records are written.
use mathlib.Core.Path.{refl, sym, ap, ◌∙◌}
use mathlib.Core.Bool.{not}
use Prim.Native.Nat.{◌+◌, ◌≤◌, ◌<◌}
use lib.ListN.{length}
use Rattle.book.specs.Records.{labels_format}
use Rattle.encoder.proofs.Codec.{labels_codec}
use Rattle.encoder.proofs.Stores.{same_length as stored_length}
use Rattle.encoder.proofs.Writes.{writing_none, end_small, writing_past, writing_more, writing_done}
use borrow.Author.Rules.{rules}
use native.Mathlib.Omega.{arith}
use Rattle.encoder.proofs.write_labels.Goals as goal
use Rattle.encoder.proofs.write_labels.Goals.{then-not-is_own, else-not-is_own}
use Rattle.encoder.proofs.write_labels.Tie as tie
use Rattle.encoder.proofs.write_labels.Lts as lts
use Rattle.encoder.proofs.write_labels.Reads as reads

pub loop-cell-init : goal.loop-cell-init
loop-cell-init c = writing_none labels_codec _ _ _ _ (omega arith)

-- a place is left
left : (c : lts.In-loop tie.the-claims reads.Pre reads.Post goal.the-invariant-loop-cell goal.the-decreases-loop-cell) → c.before.loop-cell.cell < 512
left c = omega (arith, c.loop-cell-test.true)

-- there is room for a record at the end
room : (c : lts.In-loop tie.the-claims reads.Pre reads.Post goal.the-invariant-loop-cell goal.the-decreases-loop-cell) → c.before.loop-cell.end + 66 ≤ length c.before.before.before.before.args.out.now
unfolding labels_format
room c =
    let l = c.before in
    let s = l.before.before.before in
    omega (arith, end_small labels_codec _ _ l.loop-cell.invariant, s.requires.1, left c)

pub put_label-requires : goal.put_label-requires
put_label-requires c =
    let t = c.before.before.before.before in
    (left t, search rules, omega (arith, room t, stored_length t.before.loop-cell.invariant.written.bytes_are))

pub overflow_add-end : goal.overflow_add-end
overflow_add-end c =
    let t = c.before.before.before.before.before.before.before in
    omega (arith, room t)

pub loop-cell-preserved : goal.loop-cell-preserved
unfolding labels_format
loop-cell-preserved c =
    let t = c.before.before.before in
    let l = t.before in
    elim c.if-not-is_own.branch [
      | then-not-is_own w ↦
          rw (w.out-is, w.end-is)
          (writing_more labels_codec _ _ l.loop-cell.invariant (left t) _ (l.loop-cell.end + 66) (ap not (sym c.before.is_own.ensures ∙ w.if-not-is_own.true)) refl (room t) w.put_label.ensures)
      | else-not-is_own w ↦
          rw (w.out-is, w.end-is) (writing_past labels_codec _ _ l.loop-cell.invariant (left t) (ap not (sym c.before.is_own.ensures ∙ w.if-not-is_own.false)))
    ]

pub shape_of-out : goal.shape_of-out
shape_of-out c = stored_length c.before.loop-cell.invariant.written.bytes_are

pub returns : goal.returns
unfolding labels_format
returns c =
    let w = c.before.loop-cell.invariant in
    let end : 512 ≤ c.before.loop-cell.cell = omega arith in
    let done = writing_done labels_codec _ _ w end in
    (done.0, done.1, omega (arith, end_small labels_codec _ _ w, w.upto))
