-- `places::contains` meets its contract.
use Rattle.places.specs.Sets.{has}
use borrow.Author.Rules.{rules}
use Rattle.places.proofs.contains.Goals as goal

pub returns : goal.returns
unfolding has
returns c = search rules
