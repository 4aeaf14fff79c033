-- Tables: rows that say what a call on a file, or the run of a book, gives.
use Rattle.std.specs.Prelude.{◌≡◌, List, [], ◌∷◌, map, Bool, true, ℕ, ◌/◌, ℤ, length, replicate, Ok, Err}
use Rattle.book.specs.Records.{Book}
use Rattle.book.specs.Refusals.{book_verdict, Verdict}
use Rattle.monitor.specs.Labelled.{Lab}
use Rattle.monitor.specs.Run.{Cell}
use Rattle.monitor.specs.Call.{Memory, Result, values, run_book, result_of, call, trace_records}
use Rattle.monitor.specs.Samples.{final}
use Rattle.monitor.specs.declared.Answer.TheVariants.{Refused}
use Rattle.monitor.specs.declared.Values.{Values}

-- ---- rows

-- what a caller is shown: the answer, and the records that it counts as written
pub record Shown : Type 0 where
  pub answer : Values
  pub records : List (List ℕ)

-- a file to call, or a book to run, and what that is to show
pub record Row (A : Type 0) : Type 0 where
  pub of : A
  pub budget : ℕ
  pub trace : ℕ  -- the bytes of the trace buffer
  pub shows : Shown

-- budget and trace of the run-list program
abbrev pub run_list : {A : Type 0} → A → Shown → Row A
run_list of shows = record { of = of; budget = 100000; trace = 4096; shows = shows }

abbrev pub shows : ℕ → ℕ → ℕ → ℕ → List (List ℕ) → Shown
shows number at cost bytes records = record { answer = record { number = number; at = at; cost = cost; bytes = bytes }; records = records }

-- the record of an out to user 1, of an amount below 256, and that of a change of rights
abbrev pub told : ℕ → List ℕ
told amount = 1 ∷ 1 ∷ 0 ∷ 0 ∷ amount ∷ 0 ∷ 0 ∷ 0 ∷ []

abbrev pub changed : ℕ → ℕ → ℕ → List ℕ
changed kind user region = kind ∷ user ∷ region ∷ 0 ∷ 0 ∷ 0 ∷ 0 ∷ 0 ∷ []

-- lent memory, filled with the amount z and the number n
unfoldable pub lent : ℤ → ℕ → ℕ → Memory
lent z n trace = record { amounts = replicate 512 z; presence = replicate 8 n; labels = replicate 4096 n; trace = replicate trace n }

unfoldable pub shown : Result → Shown
shown r = record { answer = values r.answer; records = trace_records r }

-- what a row's call shows, from the file's bytes
unfoldable pub called : ℤ → ℕ → Row (List ℕ) → Shown
called z n row = shown (call true row.of row.budget (lent z n row.trace))

-- a book's run, with labels or without, if its records are accepted
unfoldable pub book_answered : Bool → Book → ℕ → Memory → Verdict → Result
book_answered labels b budget m (Err refusal) = record { answer = Refused refusal; memory = m }
book_answered labels b budget m (Ok _) = result_of budget m (run_book labels b budget (length m.trace / 8))

-- what that shows
unfoldable pub ran : Bool → ℤ → ℕ → Row Book → Shown
ran labels z n row = shown (book_answered labels row.of row.budget (lent z n row.trace) (book_verdict row.of))

-- each row shows what it says, whatever lent memory was filled with
abbrev pub Shows : {A : Type 0} → (ℤ → ℕ → Row A → Shown) → List (Row A) → Type 0
Shows {A} given rows = (z : ℤ) (n : ℕ) → map (given z n) rows ≡ map (λ (row : Row A). row.shows) rows

-- ---- rows that say which cells a run leaves

-- a book to run with what that shows, some places, and the cells that its end has there
pub record Leaving : Type 0 where
  pub row : Row Book
  pub places : List ℕ
  pub cells : List (Lab Cell)

unfoldable pub left : Bool → ℤ → ℕ → Leaving → Shown × List (Lab Cell)
left labels z n x =
    let row : Row Book = x.row in
    (ran labels z n row, map (final (run_book labels row.of row.budget (row.trace / 8))).cells x.places)

-- each row shows and leaves what it says
abbrev pub Leaves : Bool → List Leaving → Type 0
Leaves labels rows = (z : ℤ) (n : ℕ) → map (left labels z n) rows ≡ map (λ (x : Leaving). (x.row.shows, x.cells)) rows
