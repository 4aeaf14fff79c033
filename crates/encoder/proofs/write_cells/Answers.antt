-- `encoder::write_cells` meets its contract: the present cells below `place` are written.
use mathlib.Core.Path.{refl, ◌∙◌}
use Prim.Native.Nat.{◌+◌, ◌≤◌, ◌<◌}
use lib.IntN.{ℤ, pos}
use lib.ListN.{length, get_or}
use mir.Syntax.{w32}
use mir.ValLaws.{to_z-of_z}
use Rattle.places.specs.Sets.{has}
use Rattle.book.specs.Records.{cells_format}
use Rattle.encoder.proofs.Codec.{cells_codec}
use Rattle.encoder.proofs.Stores.{same_length as stored_length}
use Rattle.encoder.proofs.Writes.{writing_none, end_small, writing_past, writing_more, writing_done}
use borrow.Author.Tests.{eq-eqb, ne_eqb}
use native.Mathlib.Nat.{zero-add}
use native.Mathlib.Omega.{arith}
use Rattle.encoder.proofs.write_cells.Goals as goal
use Rattle.encoder.proofs.write_cells.Goals.{then-word-place-eq1, else-word-place-eq1}
use Rattle.encoder.proofs.write_cells.Tie as tie
use Rattle.encoder.proofs.write_cells.Lts as lts
use Rattle.encoder.proofs.write_cells.Reads as reads

pub loop-place-init : goal.loop-place-init
loop-place-init c = writing_none cells_codec _ _ _ 0 (omega arith)

-- a place is left
left : (c : lts.In-loop tie.the-claims reads.Pre reads.Post goal.the-invariant-loop-place goal.the-decreases-loop-place) → c.before.loop-place.place < 512
left c = omega (arith, c.loop-place-test.true)

-- there is room for a record at the end
room : (c : lts.In-loop tie.the-claims reads.Pre reads.Post goal.the-invariant-loop-place goal.the-decreases-loop-place) → c.before.loop-place.end + 8 ≤ length c.before.before.before.args.out.now
unfolding cells_format
room c =
    let l = c.before in
    let s = l.before.before in
    omega (arith, end_small cells_codec _ _ l.loop-place.invariant, s.requires.1, left c)

pub put_cell-requires : goal.put_cell-requires
put_cell-requires c =
    let t = c.before.before.before in
    (omega (arith, room t, stored_length t.before.loop-place.invariant.written.bytes_are), left t)

pub overflow_add-end : goal.overflow_add-end
overflow_add-end c =
    let t = c.before.before.before.before.before.before.before in
    omega (arith, room t)

pub loop-place-preserved : goal.loop-place-preserved
unfolding cells_format has
loop-place-preserved c =
    let t = c.before in
    let l = t.before in
    let s = l.before.before in
    let amount : ℤ = get_or s.args.amounts.now l.loop-place.place (pos 0) in
    elim c.if-word-place-eq1.branch [
      | then-word-place-eq1 w ↦
          rw (w.out-is, w.end-is)
          (writing_more cells_codec _ _ l.loop-place.invariant (left t) w.put_cell.new.out (l.loop-place.end + 8) (eq-eqb _ 1 w.if-word-place-eq1.true) refl (room t)
          (rw (to_z-of_z w32 amount (record { sfits = w.put_cell-arg-then-word-place-eq1-1.given })) at w.put_cell.ensures))
      | else-word-place-eq1 w ↦ rw (w.out-is, w.end-is) (writing_past cells_codec _ _ l.loop-place.invariant (left t) (ne_eqb _ 1 w.if-word-place-eq1.false))
    ]

pub shape_of-out : goal.shape_of-out
shape_of-out c = stored_length c.before.loop-place.invariant.written.bytes_are

pub returns : goal.returns
unfolding cells_format
returns c =
    let w = c.before.loop-place.invariant in
    let end : 512 ≤ c.before.loop-place.place = omega arith in
    let done = writing_done cells_codec _ _ w end in
    (done.0 ∙ zero-add _, done.1, omega (arith, end_small cells_codec _ _ w, w.upto))
