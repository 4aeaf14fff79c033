-- Days in a row (02, Change 5): a day, a chain, what it ends with and when it finishes, its trace, its final cells, its reach, and two chains that
-- are compared. A day is what the entries ensure of their calls; budgets, trace lengths and what lent memory held before each call are free.
use Rattle.std.specs.Prelude.{◌≡◌, List, [], ◌∷◌, ◌++◌, ◌⊎◌, Bool, true, false, cond, ℕ, take, Ok, Err}
use Rattle.std.proofs.Common.{inl, inr}
use Rattle.places.specs.Sets.{Words, union}
use Rattle.book.specs.Bytes.{Bytes}
use Rattle.book.specs.Records.{SameScripts}
use Rattle.book.specs.Layout.{decode}
use Rattle.book.specs.Refusals.{verdict}
use Rattle.book.specs.declared.Refusal.{Refusal}
use Rattle.monitor.specs.Labelled.{Label, bottom, Lab}
use Rattle.monitor.specs.Run.{Cell}
use Rattle.monitor.specs.Call.{Memory, Result}
use Rattle.monitor.specs.declared.Answer.{Answer}
use Rattle.claims.specs.TwoBooks.{Group, accepted, finished, group_trace, reach, DifferOutside, cells_in}
use Rattle.entry.specs.Entry.{result, Runs}
use Rattle.writer.specs.Write.{write_call, Written}
use Rattle.writer.specs.Claims.{Amounts}

-- ---- the calls

-- One day: a call of `run` with the day's book. `runs` is what that entry ensures.
pub record Day (book : List ℕ) : Type 0 where
  pub budget : ℕ
  pub before : Memory
  pub answer : Answer
  pub after : Memory
  pub runs : Runs book budget before answer after

abbrev pub day_result : {book : List ℕ} → Day book → Result
day_result d = result d.answer d.after

-- Between two days: a call of `write` with the file of the day to come and the memory that the day before left. `writes` is what that entry
-- ensures. The last four say what the types of the slices do: bytes, numbers of 32 bits, words of 64 bits.
pub record Writing (file : List ℕ) (left : Memory) : Type 0 where
  pub out : List ℕ
  pub answer : Written
  pub written : List ℕ  -- the output after the call
  pub writes : record { answer = answer; out = written } ≡ write_call file left.amounts left.presence left.labels out
  pub bytes : Bytes file
  pub amounts : Amounts left.amounts
  pub presence : Words left.presence
  pub labels : Words left.labels

-- ---- a chain

-- The days from the one with this book on; `later` are the files of those after it. A chain ends at its first stop or refusal, and the files that
-- are left are not used.
pub data Days : List ℕ → List (List ℕ) → Type 0 where
  -- the last day, however it ends
  last_day : {book : List ℕ} → Day book → Days book []
  -- a day that stops or is refused, though there are files left
  breaks_off : {book file : List ℕ} {later : List (List ℕ)} (d : Day book) → finished d.answer ≡ false → Days book (file ∷ later)
  -- a day that finishes; the next day's book is refused when it is written
  not_written : {book file : List ℕ} {later : List (List ℕ)} (d : Day book) → finished d.answer ≡ true
      → (w : Writing file d.after) (refusal : Refusal) → w.answer ≡ Err refusal → Days book (file ∷ later)
  -- a day that finishes; the next day's book is what was written, n bytes, and the chain goes on with it
  goes_on : {book file : List ℕ} {later : List (List ℕ)} (d : Day book) → finished d.answer ≡ true
      → (w : Writing file d.after) (n : ℕ) → w.answer ≡ Ok n → Days (take n w.written) later → Days book (file ∷ later)

-- A chain of one or more days: the first day runs its file, `first`.
pub record Chain : Type 0 where
  pub first : List ℕ
  pub later : List (List ℕ)
  pub days : Days first later

-- ---- what it ends with

-- the answer of its last call: of `run`, or of a `write` that refuses
unfoldable pub last_answer : {book : List ℕ} {later : List (List ℕ)} → Days book later → Answer ⊎ Written
last_answer (last_day d) = inl d.answer
last_answer (breaks_off d h) = inl d.answer
last_answer (not_written d h w refusal e) = inr w.answer
last_answer (goes_on d h w n e rest) = last_answer rest

abbrev pub ended_with : Chain → Answer ⊎ Written
ended_with c = last_answer c.days

-- a chain finishes if it meets neither a stop nor a refusal: then its last call is that of its last day, which finishes
unfoldable pub no_stop : Answer ⊎ Written → Bool
no_stop (inl r) = finished r
no_stop (inr w) = false

abbrev pub chain_finished : Chain → Bool
chain_finished c = no_stop (ended_with c)

-- the memory that the last day left; a day that was refused leaves it as it was lent
unfoldable pub last_memory : {book : List ℕ} {later : List (List ℕ)} → Days book later → Memory
last_memory (last_day d) = d.after
last_memory (breaks_off d h) = d.after
last_memory (not_written d h w refusal e) = d.after
last_memory (goes_on d h w n e rest) = last_memory rest

abbrev pub final_cells : Chain → ℕ → Lab Cell
final_cells c = cells_in (last_memory c.days)

-- ---- what it shows a group

-- the days' traces one after the other; a day that was refused has none
unfoldable pub days_trace : Group → {book : List ℕ} {later : List (List ℕ)} → Days book later → List (List ℕ)
days_trace g (last_day d) = group_trace g (day_result d)
days_trace g (breaks_off d h) = group_trace g (day_result d)
days_trace g (not_written d h w refusal e) = group_trace g (day_result d)
days_trace g (goes_on d h w n e rest) = group_trace g (day_result d) ++ days_trace g rest

abbrev pub chain_trace : Group → Chain → List (List ℕ)
chain_trace g c = days_trace g c.days

-- ---- its reach

-- a day that finishes or stops counts with the reach of its run, and one that is refused with nothing
unfoldable pub day_reach : Group → {book : List ℕ} → Day book → Label
day_reach g {book} d = cond (accepted d.answer) (reach g book (day_result d)) bottom

-- the reaches of all days that are run
unfoldable pub days_reach : Group → {book : List ℕ} {later : List (List ℕ)} → Days book later → Label
days_reach g (last_day d) = day_reach g d
days_reach g (breaks_off d h) = day_reach g d
days_reach g (not_written d h w refusal e) = day_reach g d
days_reach g (goes_on d h w n e rest) = union (day_reach g d) (days_reach g rest)

abbrev pub chain_reach : Group → Chain → Label
chain_reach g c = days_reach g c.days

-- ---- two chains

-- Equally many files, and the scripts of each day are the same (`SameScripts`). A file that is refused is no book: nothing is asked of its
-- records.
pub data SameDays : List (List ℕ) → List (List ℕ) → Type 0 where
  no_day : SameDays [] []
  day_more : {file file' : List ℕ} {later later' : List (List ℕ)}
      → (verdict file ≡ Ok tt → verdict file' ≡ Ok tt → SameScripts (decode file) (decode file'))
      → SameDays later later' → SameDays (file ∷ later) (file' ∷ later')

-- Two chains are equally long, with the same records but cells and labels each day, and their first books differ only in cells outside
-- the reach: by starting label, whatever the versions of the files.
pub record ChainsDifferOutside (reach : Label) (first second : Chain) : Type 0 where
  pub books : verdict first.first ≡ Ok tt → verdict second.first ≡ Ok tt → DifferOutside reach first.first second.first
  pub later : SameDays first.later second.later
