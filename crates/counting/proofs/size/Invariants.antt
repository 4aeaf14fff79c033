-- `counting::size` meets its contract: after some words, the members of those words are counted.
use Rattle.std.proofs.Common.{◌≡◌, ◌*◌, ◌≤◌}
use Rattle.places.specs.Sets.{has, tally}
use Rattle.counting.proofs.size.Given as goal

abbrev pub invariant-loop-word : goal.invariant-loop-word
invariant-loop-word l = (l.members ≡ tally (has l.fn.set) (64 * l.word-index)) × (l.members ≤ 64 * l.word-index)
