-- `comparisons::set_at` meets its contract: it reads eight words, all of them inside the bytes.
use Prim.Native.Nat.{◌≤◌}
use Rattle.comparisons.proofs.set_at.Given as goal

abbrev pub invariant-loop-word : goal.invariant-loop-word
invariant-loop-word l = l.word ≤ 8
