-- The reader's answer in the paper's numbers, from its contract. Assumes nothing.
use mathlib.Core.Path.{ap, ◌∙◌}
use Rattle.book.specs.Refusals.{verdict_values, verdict}
use Rattle.book.proofs.Verdicts.{need_values}
use Rattle.reader.specs.Inspect.{InspectValues}

pub inspect_values : InspectValues
unfolding verdict
inspect_values file r e = ap verdict_values e ∙ simp need_values
