-- `queries::first_from` meets its contract.
use mathlib.Core.Path.{ap, ◌∙◌}
use lib.IntN.{nat_abs}
use mir.Syntax.{w32}
use mir.Facts.{to_z-of_z}
use Rattle.queries.proofs.Clipped.{from_clamped}
use Rattle.queries.proofs.first_from.Goals as goal

pub returns : goal.returns
returns c =
    let clamped = rw (to_z-of_z c.ranges.bound) at c.clamp.ensures.value in
    rw (to_z-of_z {w = w32} (record { sfits = c.clamp.type_inv })) (ap nat_abs clamped ∙ from_clamped c.args.bound)
