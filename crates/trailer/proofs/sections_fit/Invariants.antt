-- `trailer::sections_fit` meets its contract: the tests that are left from a pair on decide the whole.
use mathlib.Core.Path.{◌≡◌}
use Prim.Native.Nat.{◌≤◌}
use lib.ListN.{drop}
use Rattle.book.specs.Layout.{bounds, in_order}
use Rattle.book.specs.Refusals.{sections_fit}
use Rattle.trailer.proofs.sections_fit.Given as goal

abbrev pub invariant-loop-pair : goal.invariant-loop-pair
invariant-loop-pair l =
    (l.pair ≤ l.sections) × (l.end ≤ 5000000) × (in_order l.file l.pair l.end (drop l.pair (bounds l.file)) ≡ sections_fit l.file)
