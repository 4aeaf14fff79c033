-- `encoder::copy_part` meets its contract: the bytes passed are stored in their place.
use mathlib.Core.Path.{◌≡◌}
use lib.ListN.{length, take, drop}
use lib.Seq.{paste}
use Rattle.encoder.proofs.copy_part.Given as goal

abbrev pub invariant-loop-copied : goal.invariant-loop-copied
invariant-loop-copied l = (l.out ≡ paste l.initial.out l.at (take l.count (drop l.from l.source)) l.copied) × (length l.out ≡ length l.initial.out)
