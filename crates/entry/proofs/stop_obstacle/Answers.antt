-- `entry::stop_obstacle` meets its contract: where the number is about labels, the difference of the two sets, and else the empty set.
use mathlib.Core.Path.{sym, ◌∙◌}
use Rattle.entry.specs.Explain.{obstacle}
use Rattle.entry.proofs.stop_obstacle.Goals as goal

pub returns-then-not-about_labels : goal.returns-then-not-about_labels
unfolding obstacle
returns-then-not-about_labels c = rw (sym c.about_labels.ensures ∙ c.if-not-about_labels.true)

pub returns : goal.returns
unfolding obstacle
returns c = rw (sym c.about_labels.ensures ∙ c.if-not-about_labels.false) c.difference.ensures
