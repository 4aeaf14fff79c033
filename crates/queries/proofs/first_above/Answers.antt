-- `queries::first_above` meets its contract.
use mathlib.Core.Path.{ap, ◌∙◌}
use lib.IntN.{ℤ, pos, nat_abs, ◌+ℤ◌}
use borrow.Author.Rules.{rules}
use mir.Syntax.{w32}
use mir.Val.{SFits}
use mir.Facts.{to_z-of_z}
use Rattle.queries.proofs.Clipped.{above_clamped}
use Rattle.queries.proofs.first_above.Goals as goal

pub returns : goal.returns
returns c =
    let clamped = rw (to_z-of_z c.ranges.bound) at c.clamp.ensures.value in
    let fits : SFits w32 (c.clamp.result +ℤ pos 1) = search rules in
    rw (to_z-of_z {w = w32} {z = c.clamp.result} (record { sfits = c.clamp.type_inv }), to_z-of_z fits)
    (ap (λ (z : ℤ). nat_abs (z +ℤ pos 1)) clamped ∙ above_clamped c.args.bound)
