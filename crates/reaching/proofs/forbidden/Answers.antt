-- `reaching::forbidden` meets its contract: each way out has made the tests on it.
use mathlib.Core.Path.{refl, sym, ◌∙◌}
use borrow.Author.Tests.{eq-eqb, ne_eqb, le-leb, lt-leb}
use Rattle.book.specs.Refusals.{forbidden}
use Rattle.book.proofs.Chains.{pass, fail, or_pass, or_hold}
use Rattle.reaching.proofs.forbidden.Goals as goal

pub returns-then-kind-eq20 : goal.returns-then-kind-eq20
unfolding forbidden
returns-then-kind-eq20 c =
    let e = eq-eqb _ _ c.if-kind-eq20.true in
    e ∙ sym (or_hold _ e)

pub returns-then-kind-ge23 : goal.returns-then-kind-ge23
unfolding forbidden
returns-then-kind-ge23 c = sym (or_pass (ne_eqb _ _ c.before.if-kind-eq20.false) (pass (le-leb _ _ c.if-kind-ge23.true) refl))

pub returns-else-kind-ge23 : goal.returns-else-kind-ge23
unfolding forbidden
returns-else-kind-ge23 c =
    let e = lt-leb _ _ c.if-kind-ge23.false in
    e ∙ sym (or_pass (ne_eqb _ _ c.before.if-kind-eq20.false) (fail _ e))
