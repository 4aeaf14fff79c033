-- `queries::amount` meets its contract.
use mathlib.Core.Path.{sym, ◌∙◌}
use mir.Facts.{to_z-of_z}
use Rattle.queries.specs.Tallies.{amount_of}
use Rattle.queries.proofs.amount.Goals as goal

pub returns-then-is_nothing : goal.returns-then-is_nothing
unfolding amount_of
returns-then-is_nothing c =
    let is_nothing = rw (to_z-of_z c.ranges.tally) at c.is_nothing.ensures in
    rw (sym is_nothing ∙ c.if-is_nothing.true)

pub returns : goal.returns
unfolding amount_of
returns c =
    let is_nothing = rw (to_z-of_z c.ranges.tally) at c.is_nothing.ensures in
    rw (to_z-of_z c.ranges.tally, sym is_nothing ∙ c.if-is_nothing.false)
