-- `regions::holds` meets its contract: the table is tested, then the owner, then the line.
use Rattle.std.proofs.Common.{sym, ◌∙◌, true≢false}
use borrow.Author.Tests.{eq-eqb, ne_eqb}
use Rattle.regions.specs.Regions.{in_region}
use Rattle.regions.proofs.holds.Goals as goal
use Rattle.regions.proofs.holds.Goals.{then-place-region, else-place-region}

pub returns-then-contains : goal.returns-then-contains
unfolding in_region
returns-then-contains c = elim c.if-place-region.branch [
  | then-place-region w ↦ rw (eq-eqb _ _ w.if-place-region.true, ← w.contains.ensures, sym w.value-is ∙ c.if-contains.true) c.contains-then-contains.ensures
  | else-place-region w ↦ absurd (true≢false (sym c.if-contains.true ∙ w.value-is ∙ ne_eqb _ _ w.if-place-region.false))
]

pub returns-else-contains : goal.returns-else-contains
unfolding in_region
returns-else-contains c = elim c.if-place-region.branch [
  | then-place-region w ↦ rw (eq-eqb _ _ w.if-place-region.true, ← w.contains.ensures, sym w.value-is ∙ c.if-contains.false) c.if-contains.false
  | else-place-region w ↦ rw (ne_eqb _ _ w.if-place-region.false) (w.value-is ∙ ne_eqb _ _ w.if-place-region.false)
]
