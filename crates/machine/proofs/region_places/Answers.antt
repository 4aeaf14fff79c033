-- `machine::region_places` meets its contract.
use mathlib.Core.Path.{ap, ◌∙◌}
use Rattle.regions.specs.Regions.{region_set}
use Rattle.monitor.specs.Rules.{region_places}
use Rattle.machine.proofs.region_places.Goals as goal

pub region_set-requires : goal.region_set-requires
region_set-requires c = c.region_of.ensures.1

pub returns : goal.returns
unfolding region_places
returns c = c.region_set.ensures ∙ ap (region_set 8) c.before.region_of.ensures.0
