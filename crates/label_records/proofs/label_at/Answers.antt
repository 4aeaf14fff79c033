-- `label_records::label_at` meets its contract: the words so far are read.
use mathlib.Core.Path.{refl}
use mathlib.Core.List.{List}
use Prim.Native.Nat.{ℕ}
use native.Mathlib.Omega.{arith}
use Rattle.places.proofs.Loops.{filled_turn, filled_end}
use Rattle.label_records.proofs.Labels.{length_label, label_word}
use Rattle.label_records.proofs.label_at.Goals as goal

pub loop-word-init : goal.loop-word-init
loop-word-init c = record { at = omega arith; words = refl }

pub loop-word-preserved : goal.loop-word-preserved
loop-word-preserved c =
    let s = c.before.before.before.before.before in
    let file : List ℕ = s.args.file.now in
    let at : ℕ = s.args.at in
    let w : ℕ = c.before.before.loop-word.word in
    filled_turn (length_label file at) refl (omega arith) (label_word file at w (omega arith) c.u64_at.ensures c.u64_at.type_inv) c.before.before.loop-word.invariant

pub returns : goal.returns
returns c =
    let s = c.before.before.before.before in
    filled_end (length_label s.args.file.now s.args.at) refl (omega arith) c.before.loop-word.invariant
