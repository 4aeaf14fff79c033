-- The worked examples hold, by computation. Assumes nothing.
use mathlib.Core.Path.{refl}
use mathlib.Core.Bool.{true, false}
use Rattle.monitor.proofs.Tables.{ran_quick, by_running, left_quick, by_leaving}
use Rattle.worked_runs.specs.Examples.{examples, Examples, unlabelled, Unlabelled, failures, Failures}

pub worked_examples : Examples
unfolding ran_quick examples
worked_examples = by_running true examples (λ z n. refl)

pub unlabelled_examples : Unlabelled
unfolding ran_quick unlabelled
unlabelled_examples = by_running false unlabelled (λ z n. refl)

pub failed_postings : Failures
unfolding left_quick failures
failed_postings true = by_leaving true failures (λ z n. refl)
failed_postings false = by_leaving false failures (λ z n. refl)
