-- The table of the code, as the definition of the kinds gives it.
use Rattle.std.specs.Prelude.{List, [], ◌∷◌, ℕ}
use Rattle.book.specs.Kinds.{row_of}
use Rattle.book.specs.Start.{tabulate}
use Rattle.book.specs.declared.Row.{Row}

-- a row's columns
abbrev pub columns : Row → List ℕ
columns r = r.cost ∷ r.sort ∷ r.p ∷ r.a ∷ r.b ∷ r.c ∷ r.d ∷ r.k ∷ []

-- the rows of kinds 0 to 26
unfoldable pub kinds_table : List (List ℕ)
kinds_table = tabulate (λ kind. columns (row_of kind)) 27
