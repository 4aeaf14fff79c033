-- The paper's marked cases hold, by computation. Assumes nothing.
use mathlib.Core.Path.{refl}
use Rattle.book.specs.Tables.{w_file}
use Rattle.monitor.specs.Marked.{marked, Marked}
use Rattle.monitor.proofs.Tables.{called_quick, by_calling}

pub marked_cases : Marked
unfolding called_quick w_file marked
marked_cases = by_calling marked (λ z n. refl)
