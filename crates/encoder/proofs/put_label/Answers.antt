-- `encoder::put_label` meets its contract: the place, and behind it the words so far.
use mathlib.Core.Path.{◌≡◌}
use Prim.Native.Nat.{◌*◌}
use Rattle.book.specs.Records.{labels_format}
use Rattle.encoder.proofs.Stores.{stored_none}
use Rattle.encoder.proofs.Stores.{same_length as stored_length}
use Rattle.encoder.proofs.Steps.{words_turn, label_stored}
use borrow.Author.Rules.{rules}
use native.Mathlib.Omega.{arith}
use Rattle.encoder.proofs.put_label.Goals as goal

pub loop-word-init : goal.loop-word-init
loop-word-init c = (search rules, stored_none _ _ (omega arith))

pub put_u64-requires : goal.put_u64-requires
put_u64-requires c = omega (arith, stored_length c.before.before.before.loop-word.invariant.1)

pub loop-word-preserved : goal.loop-word-preserved
loop-word-preserved c =
    let l = c.before.before.before.before.before.before.loop-word in
    let s = c.before.before.before.before.before.before.before.before.before.before.before.before.before.before in
    (omega arith, words_turn s.args.labels.now (8 * s.args.place) l.word l.invariant.1 _ (omega arith) c.before.before.put_u64.ensures)

pub shape_of-out : goal.shape_of-out
shape_of-out c = omega (arith, stored_length c.before.loop-word.invariant.1)

pub returns : goal.returns
unfolding labels_format
returns c =
    let s = c.before.before.before.before.before.before.before.before.before in
    let l = c.before.loop-word in
    let e : l.word ≡ 8 = omega arith in
    (label_stored s.args.labels.now s.args.out.now _ _ s.args.at s.args.place s.requires.2 c.before.before.before.before.put_u16.ensures (rw e at l.invariant.1)).is
