-- `reaching::flagged` meets its contract: the second flag is read where the first is not set.
use mathlib.Core.Path.{refl, sym, ◌∙◌}
use Rattle.book.proofs.Chains.{or_pass, or_hold}
use Rattle.reaching.proofs.flagged.Goals as goal

pub returns-then-flags-i : goal.returns-then-flags-i
returns-then-flags-i c = c.if-flags-i.true ∙ sym (or_hold _ c.if-flags-i.true)

pub returns-else-flags-i : goal.returns-else-flags-i
returns-else-flags-i c = sym (or_pass c.before.if-flags-i.false refl)
