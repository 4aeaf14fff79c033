-- `kinds::row_of` meets its contract: past the table there is no kind.
use mathlib.Core.Path.{sym, ◌∙◌}
use Rattle.kinds.proofs.Past.{past}
use Rattle.kinds.proofs.row_of.Goals as goal

pub returns-then-at-gt26 : goal.returns-then-at-gt26
returns-then-at-gt26 c = c.row_at.ensures ∙ sym (past c.before.before.args.kind c.before.if-at-gt26.true)
