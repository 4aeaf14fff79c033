-- What a query finds among the cells it sees.
use Rattle.std.specs.Prelude.{List, ℕ, ◌*◌, ℤ, pos, get_or}
use Rattle.monitor.specs.Labelled.{Lab}
use Rattle.monitor.specs.Run.{Cell}
use Rattle.monitor.specs.Rules.{Box, in_box, gather, aggregate}
use Rattle.queries.specs.declared.Found.{Found}

-- owners first to last, lines low to high
abbrev pub box : ℤ → ℤ → ℤ → ℤ → Box
box first last low high = record { owners = record { first = first; last = last }; lines = record { first = low; last = high } }

-- from four bounds
abbrev pub box_in : List ℤ → Box
box_in bounds = box (get_or bounds 0 (pos 0)) (get_or bounds 1 (pos 0)) (get_or bounds 2 (pos 0)) (get_or bounds 3 (pos 0))

-- what a query of this kind finds among the cells of a table that lie in the box, with the labels of all of them
unfoldable pub found_in : ℕ → (ℕ → Lab Cell) → Box → ℕ → Found
found_in kind cells x table =
    let seen : Lab (List Cell) = gather cells (in_box x) (64 * table) 64 in
    record { amount = aggregate kind seen.val; label = seen.lab }
