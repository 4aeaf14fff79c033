-- The refusals have their numbers, by computation. Assumes nothing.
use mathlib.Core.Path.{refl}
use Rattle.worked_runs.specs.Numbers.{RefusalNumbers}

pub refusal_numbers : RefusalNumbers
refusal_numbers = record { of_the_call = refl; of_the_file = refl; of_records = refl }
