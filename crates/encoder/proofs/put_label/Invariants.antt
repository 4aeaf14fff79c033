-- `encoder::put_label` meets its contract: the place, and behind it the words so far.
use Prim.Native.Nat.{◌+◌, ◌*◌, ◌≤◌}
use Rattle.encoder.proofs.Stores.{Stored}
use Rattle.encoder.proofs.Steps.{word_bytes}
use Rattle.encoder.proofs.put_label.Given as goal

abbrev pub invariant-loop-word : goal.invariant-loop-word
invariant-loop-word l = (l.word ≤ 8) × Stored l.initial.out (l.at + 2) (word_bytes l.labels (8 * l.place) l.word) l.out
