-- `encoder::put_cell` meets its contract: the key, and behind it the amount.
use mathlib.Core.Path.{◌≡◌, refl, ap, ◌∙◌}
use lib.ListN.{length-set}
use mir.Syntax.{w32}
use mir.ValLaws.{to_z-of_z}
use Rattle.book.specs.Bytes.{bits32, four}
use Rattle.book.specs.Records.{cells_format}
use Rattle.book.specs.Encode.{cell_record}
use native.Mathlib.Omega.{arith}
use Rattle.encoder.proofs.Stores.{Stored, eight_stores}
use Rattle.encoder.proofs.Stores.{same_length as stored_length}
use Rattle.encoder.proofs.put_cell.Goals as goal
use Rattle.encoder.proofs.put_cell.Tie as tie
use Rattle.encoder.proofs.put_cell.Lts as lts
use Rattle.encoder.proofs.put_cell.Reads as reads

pub bounds-out-at-2 : goal.bounds-out-at-2
bounds-out-at-2 c = simp length-set (omega arith)

pub bounds-out-at-3 : goal.bounds-out-at-3
bounds-out-at-3 c = simp length-set (omega arith)

pub bounds-out-at-4 : goal.bounds-out-at-4
bounds-out-at-4 c = simp length-set (omega arith)

pub put_u32-requires : goal.put_u32-requires
put_u32-requires c = simp length-set (omega arith)

written : (c : lts.After-slice_known2 tie.the-claims reads.Pre reads.Post)
    → let s = c.before.before.before.before.before.before in
    Stored s.args.out.now s.args.at (cells_format.write (cell_record s.args.place s.args.amount)) c.before.before.put_u32.new.out
unfolding cells_format
written c =
    let s = c.before.before.before.before.before.before in
    let bits = c.before.before.before.before.bits_of-bits in
    let e : bits.result ≡ bits32 s.args.amount = bits.ensures ∙ ap bits32 (to_z-of_z w32 s.args.amount s.ranges.amount) in
    rw e at (eight_stores s.args.out.now s.args.at _ _ _ 0 (four bits.result) _ refl (omega arith) c.before.before.put_u32.ensures)

pub shape_of-out : goal.shape_of-out
shape_of-out c = stored_length (written c.before)

pub returns : goal.returns
unfolding cells_format
returns c = (written c.before).is
