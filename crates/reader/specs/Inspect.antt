-- What the reader's contract says in the paper's numbers.
use Rattle.std.specs.Prelude.{◌≡◌, List, cond, ℕ}
use Rattle.book.specs.Layout.{decode}
use Rattle.book.specs.Refusals.{verdict_values, length_fits, mark_fits, sections_fit, book_verdict, verdict, Verdict}

-- what `inspect` ensures of its answer, in numbers: 2, 3 and 4 with index 0, in this order, then the number, 5 to 10 or 32, and the index of the first bad record
abbrev pub InspectValues : Type 0
InspectValues =
    (file : List ℕ) (r : Verdict) → r ≡ verdict file
    → verdict_values r
    ≡ cond (length_fits file)
    (cond (mark_fits file)
    (cond (sections_fit file) (verdict_values (book_verdict (decode file))) (record { number = 4; index = 0 }))
    (record { number = 3; index = 0 }))
    (record { number = 2; index = 0 })
