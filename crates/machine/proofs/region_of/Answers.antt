-- `machine::region_of` meets its contract.
use mathlib.Core.Path.{◌∙◌}
use native.Mathlib.Omega.{arith}
use Rattle.machine.proofs.Scripts.{region_end, region_is, region_table}
use Rattle.machine.proofs.region_of.Goals as goal

pub overflow_mul-region : goal.overflow_mul-region
overflow_mul-region c = omega (arith, c.args.script.runnable.sound.few_regions, c.requires)

pub overflow_add-region : goal.overflow_add-region
overflow_add-region c = omega (arith, c.args.script.runnable.sound.few_regions, c.requires)

pub region_at-requires : goal.region_at-requires
region_at-requires c = region_end c.args.script.bytes.now c.args.script.runnable c.args.region c.requires

pub returns : goal.returns
returns c = (
  c.region_at.ensures ∙ region_is c.args.script.bytes.now c.args.script.runnable c.args.region c.requires,
  rw c.region_at.ensures (region_table c.args.script.bytes.now c.args.script.runnable c.args.region c.requires),
)
