-- `regions::repeated` meets its contract: the word holds the pattern at the positions passed.
use Rattle.std.proofs.Common.{◌≡◌}
use Rattle.regions.specs.Regions.{repeated}
use Rattle.regions.proofs.repeated.Given as goal

abbrev pub invariant-loop-position : goal.invariant-loop-position
invariant-loop-position l = l.word ≡ repeated l.pattern l.width l.range l.position
