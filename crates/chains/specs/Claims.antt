-- Demand 3 over days, and what crossing over to version 2 changes of a run, as statements over what the entries `run` and `write` ensure. Their
-- proofs are in proofs/.
use Rattle.std.specs.Prelude.{◌≡◌, List, [], ◌⊎◌, ◌↔◌, true, ℕ, ◌≤◌, ℤ, length, take, Ok}
use Rattle.book.specs.Bytes.{Bytes}
use Rattle.book.specs.Refusals.{verdict}
use Rattle.book.specs.Start.{Lengths}
use Rattle.loader.specs.Load.{Loaded, load_call}
use Rattle.monitor.specs.Labelled.{Label}
use Rattle.monitor.specs.Call.{Memory}
use Rattle.monitor.specs.declared.Answer.{Answer}
use Rattle.claims.specs.TwoBooks.{Group, accepted, finished, group_trace, Begins, reach, SameInside, cells_in}
use Rattle.entry.specs.Entry.{Runs}
use Rattle.entry.specs.Claims.{Demand3}
use Rattle.writer.specs.Write.{WriteCall, write_call}
use Rattle.chains.specs.Chains.{Day, day_result, last_day, Chain, chain_finished, final_cells, chain_trace, chain_reach, ChainsDifferOutside}

-- What the group learns from two chains: nothing but where one ended early, and where both finish, nothing.
-- Of the two traces one begins the other; a chain that finishes shows the group all that the other shows; and where both finish, the
-- traces are the same, and so are the final cells inside the reach.
pub record LearnsNothingOverDays (g : Group) (reach : Label) (first second : Chain) : Type 0 where
  pub begins : Begins (chain_trace g first) (chain_trace g second) ⊎ Begins (chain_trace g second) (chain_trace g first)
  pub first_whole : chain_finished first ≡ true → Begins (chain_trace g second) (chain_trace g first)
  pub second_whole : chain_finished second ≡ true → Begins (chain_trace g first) (chain_trace g second)
  pub traces : chain_finished first ≡ true → chain_finished second ≡ true → chain_trace g first ≡ chain_trace g second
  pub cells : chain_finished first ≡ true → chain_finished second ≡ true → SameInside reach (final_cells first) (final_cells second)

-- Demand 3 over days: for every group and every two chains that have equally many days, one or more, with the same regions, rights, nodes, programs and
-- triggers each day, and first books that differ only in cells outside the reach that the group has in the first chain. No day need be accepted:
-- one that is refused shows nothing and ends its chain.
abbrev pub Demand3OverDays : Type 0
Demand3OverDays = (g : Group) (c c' : Chain) → ChainsDifferOutside (chain_reach g c) c c' → LearnsNothingOverDays g (chain_reach g c) c c'

-- Either chain may be called the first: the same with the reach that the group has in the second.
abbrev pub EitherFirst : Type 0
EitherFirst = (g : Group) (c c' : Chain) → ChainsDifferOutside (chain_reach g c') c c' → LearnsNothingOverDays g (chain_reach g c') c c'

-- A chain of one day is that day, and what is claimed of two such chains is demand 3 of two runs.
abbrev pub one_day : {book : List ℕ} → Day book → Chain
one_day {book} d = record { first = book; later = []; days = last_day d }

pub record OneDay : Type 0 where
  pub trace : (g : Group) {book : List ℕ} (d : Day book) → chain_trace g (one_day d) ≡ group_trace g (day_result d)
  pub finishes : {book : List ℕ} (d : Day book) → chain_finished (one_day d) ≡ finished d.answer
  pub cells : {book : List ℕ} (d : Day book) → final_cells (one_day d) ≡ cells_in d.after
  pub reach_is : (g : Group) {book : List ℕ} (d : Day book) → accepted d.answer ≡ true → chain_reach g (one_day d) ≡ reach g book (day_result d)
  pub gives_back : Demand3OverDays → Demand3

-- ---- crossing over

-- A book that is loaded and written back runs as before, whichever its version: with the same budget and lent memory, a call has the same answer
-- and leaves the same memory. So an office that crosses over from version 1 between two days changes no run by it.
abbrev pub RunsAsBefore : Type 0
RunsAsBefore =
    (file : List ℕ) → Bytes file → verdict file ≡ Ok tt
    → (amounts : List ℤ) (presence labels : List ℕ) → Lengths amounts presence labels
    → (out : List ℕ) → 60000 ≤ length out
    → let m : Loaded = load_call file amounts presence labels in
    let w : WriteCall = write_call file m.amounts m.presence m.labels out in
    (n : ℕ) → w.answer ≡ Ok n
    → (budget : ℕ) (before after : Memory) (r : Answer) → Runs (take n w.out) budget before r after ↔ Runs file budget before r after
