-- The witnesses hold, by computation: Monday's run from its file, Tuesday's from its script and the cells that Monday left. Assumes nothing.
use mathlib.Core.Path.{◌≡◌, refl, sym, ap, ◌∙◌}
use mathlib.Core.List.{List, [], ◌∷◌, ◌++◌}
use mathlib.Core.Logic.{inl}
use mathlib.Core.Bool.{true}
use Prim.Native.Nat.{ℕ, ◌<◌}
use native.Mathlib.Omega.{arith}
use lib.Dec.{ltb}
use lib.IntN.{pos}
use lib.ListN.{length, take, replicate}
use lib.Signed.{mag}
use Rattle.places.specs.Sets.{union}
use Rattle.book.specs.Records.{Book, SameScripts}
use Rattle.book.specs.Tables.{cell, may_read, may_write, sum, both, put, out, program, w_regions, constants}
use Rattle.book.specs.Refusals.{verdict, refusal_of}
use Rattle.std.specs.Prelude.{Ok}
use Rattle.book.specs.declared.Reason.TheVariants as reasons
use Rattle.book.proofs.Verdicts.{passes, need_passes}
use Rattle.monitor.specs.Labelled.{bottom, Lab}
use Rattle.monitor.specs.Run.{Cell, held, Out, update}
use Rattle.monitor.specs.Call.{Memory, Result, result_of, call}
use Rattle.monitor.specs.Tables.{told, lent, shown}
use Rattle.monitor.specs.Samples.{eight}
use Rattle.monitor.specs.declared.Answer.{Answer}
use Rattle.monitor.specs.declared.Answer.TheVariants.{Refused, Stopped, Finished}
use Rattle.claims.specs.TwoBooks.{accepted, finished, group_trace, reach, DifferOutside, cells_in}
use Rattle.claims.specs.Witnesses.{members, owner_1}
use Rattle.monitor.proofs.Start.{start_cell}
use Rattle.claims.proofs.Views.{end}
use Rattle.claims.proofs.Inside.{below, same_amount, inside_either, alike, differ_outside}
use Rattle.claims.proofs.Calls.{call_quick, call_is, left_quick, left_is}
use Rattle.entry.specs.Entry.{result}
use Rattle.writer.specs.Write.{write_fits, write_verdict, rewritten, write_answer, write_call}
use Rattle.writer.specs.Claims.{ReadsBack}
use Rattle.chains.specs.Chains.{Day, Writing, last_day, breaks_off, goes_on, Chain, last_answer, no_stop, last_memory, days_trace, day_reach, days_reach, no_day, day_more}
use Rattle.chains.specs.Witnesses.{user_1, monday, tuesday_with, tuesday, lent_64, owners_1_3, Story, Compared, NotRun, Stories}
use Rattle.chains.proofs.Written.{kept}
use Rattle.chains.proofs.NextDay.{next_cells, run_next, lent_fits, new_reach, new_call, new_left}
use Rattle.chains.proofs.Lent.{all_bytes, bytes_are, lengths_left, presence_words, labels_words, amounts_fit}

-- ---- a day by its call

abbrev day_of : (book : List ℕ) (budget : ℕ) (m : Memory) → Day book
day_of book budget m =
    record { budget = budget; before = m; answer = (call true book budget m).answer; after = (call true book budget m).memory; runs = refl }

-- ---- Monday

-- Monday's book, and the cells that it leaves: in place 8 the amount of place 16, with its label
unfoldable monday_book : ℕ → Book
monday_book amount = record {
  cells = cell 0 1 0 (pos 250) ∷ cell 0 2 0 (pos amount) ∷ [];
  regions = w_regions;
  rights = may_read 1 0 ∷ may_read 2 1 ∷ may_write 0 0 ∷ [];
  nodes = constants ++ (sum 0 1 1 0 0 ∷ out 4 1 ∷ sum 0 2 2 0 0 ∷ put 0 1 0 6 ∷ both 5 7 ∷ []);
  programs = program 0 8 ∷ [];
  triggers = [];
  labels = [];
}

unfoldable monday_cells : ℕ → ℕ → Lab Cell
monday_cells amount = update (start_cell (monday_book amount)) 8 (record { val = held (pos amount); lab = eight 65536 })

-- what is computed of it
record Monday (amount : ℕ) : Type 0 where
  answers : (call_quick (monday amount) 100 lent_64).answer ≡ Finished 21 8
  shows : group_trace user_1 (call_quick (monday amount) 100 lent_64) ≡ told 250 ∷ []
  reaches : reach user_1 (monday amount) (call_quick (monday amount) 100 lent_64) ≡ owner_1
  leaves : left_quick (monday amount) 100 lent_64 ≡ monday_cells amount
  fits : below (λ q. ltb (mag (monday_cells amount q).val.amount) 2147483648) 512 ≡ true

monday_900 : Monday 900
unfolding left_quick members below monday monday_book monday_cells
monday_900 = record { answers = refl; shows = refl; reaches = refl; leaves = refl; fits = refl }

monday_40 : Monday 40
unfolding left_quick members below monday monday_book monday_cells
monday_40 = record { answers = refl; shows = refl; reaches = refl; leaves = refl; fits = refl }

-- ---- Tuesday

abbrev tuesday_run : ℕ → ℕ → Out (Unit {0})
tuesday_run amount root = run_next (tuesday root) (monday_cells amount) 100 8

abbrev tuesday_result : ℕ → ℕ → Result
tuesday_result amount root = result_of 100 lent_64 (tuesday_run amount root)

record Tuesday (amount root : ℕ) (last : Answer) : Type 0 where
  answers : (tuesday_result amount root).answer ≡ last
  accepts : accepted last ≡ true
  shows : group_trace user_1 (tuesday_result amount root) ≡ told 2 ∷ []
  reaches : union owner_1 (reach user_1 (tuesday root) (tuesday_result amount root)) ≡ owners_1_3
  leaves : (end (tuesday_run amount root)).cells 8 ≡ record { val = held (pos amount); lab = eight 65536 }
  leaves_next : (end (tuesday_run amount root)).cells 9 ≡ record { val = held (pos 2); lab = bottom }
  right : verdict (tuesday root) ≡ Ok tt
  bytes : all_bytes (tuesday root) ≡ true

stops_900 : Tuesday 900 9 (Stopped 27 6 17 8)
unfolding left_quick members monday_book monday_cells tuesday_with kept next_cells run_next all_bytes
stops_900 = record { answers = refl; accepts = refl; shows = refl; reaches = refl; leaves = refl; leaves_next = refl; right = refl; bytes = refl }

stops_40 : Tuesday 40 9 (Stopped 27 6 17 8)
unfolding left_quick members monday_book monday_cells tuesday_with kept next_cells run_next all_bytes
stops_40 = record { answers = refl; accepts = refl; shows = refl; reaches = refl; leaves = refl; leaves_next = refl; right = refl; bytes = refl }

finishes_900 : Tuesday 900 8 (Finished 7 8)
unfolding left_quick members monday_book monday_cells tuesday_with kept next_cells run_next all_bytes
finishes_900 = record { answers = refl; accepts = refl; shows = refl; reaches = refl; leaves = refl; leaves_next = refl; right = refl; bytes = refl }

finishes_40 : Tuesday 40 8 (Finished 7 8)
unfolding left_quick members monday_book monday_cells tuesday_with kept next_cells run_next all_bytes
finishes_40 = record { answers = refl; accepts = refl; shows = refl; reaches = refl; leaves = refl; leaves_next = refl; right = refl; bytes = refl }

-- ---- both days

module _ (back : ReadsBack) (amount root : ℕ) (last : Answer) (x : Monday amount) (y : Tuesday amount root last) where
  abbrev first_day : Day (monday amount)
  first_day = day_of (monday amount) 100 lent_64

  first_is : call true (monday amount) 100 lent_64 ≡ call_quick (monday amount) 100 lent_64
  first_is = ap (λ calling. calling (monday amount) 100 lent_64) call_is

  first_accepted : accepted (call true (monday amount) 100 lent_64).answer ≡ true
  unfolding accepted
  first_accepted = rw (first_is, x.answers) refl

  first_finished : finished (call true (monday amount) 100 lent_64).answer ≡ true
  unfolding finished
  first_finished = rw (first_is, x.answers) refl

  cells_left : (q : ℕ) → q < 512 → cells_in (call true (monday amount) 100 lent_64).memory q ≡ monday_cells amount q
  cells_left q l = left_is (monday amount) 100 lent_64 first_accepted q l ∙ ap (λ f. f q) x.leaves

  abbrev left : Memory
  left = (call true (monday amount) 100 lent_64).memory

  writing : Writing (tuesday root) left
  writing = record {
    out = replicate 60000 0;
    answer = (write_call (tuesday root) left.amounts left.presence left.labels (replicate 60000 0)).answer;
    written = (write_call (tuesday root) left.amounts left.presence left.labels (replicate 60000 0)).out;
    writes = refl;
    bytes = bytes_are (tuesday root) y.bytes;
    amounts = amounts_fit (monday amount) 100 lent_64 first_accepted (monday_cells amount) cells_left x.fits;
    presence = presence_words (monday amount) 100 lent_64 first_accepted;
    labels = labels_words (monday amount) 100 lent_64 first_accepted;
  }

  abbrev size : ℕ
  size = length (rewritten (tuesday root) left.amounts left.presence left.labels)

  fits_out : write_fits left.amounts left.presence left.labels (replicate 60000 0) ≡ true
  fits_out =
      let l = lengths_left (monday amount) 100 lent_64 first_accepted in
      rw (l.amounts_are, l.presence_is, l.labels_are) refl

  wrote : writing.answer ≡ Ok size
  unfolding write_call write_verdict writing
  wrote =
      ap (λ v. write_answer v (rewritten (tuesday root) left.amounts left.presence left.labels))
      (passes (verdict (tuesday root)) (need_passes reasons.Lent fits_out) ∙ y.right)

  abbrev book : List ℕ
  book = take size writing.written

  second_is : call true book 100 lent_64 ≡ tuesday_result amount root
  unfolding lent_fits lent
  second_is = new_call back writing wrote (monday_cells amount) cells_left 100 lent_64 refl

  chain : Chain
  chain = record {
    first = monday amount;
    later = tuesday root ∷ [];
    days = goes_on first_day first_finished writing size wrote (last_day (day_of book 100 lent_64));
  }

  first_reach : day_reach user_1 first_day ≡ owner_1
  unfolding day_reach
  first_reach = rw first_accepted (ap (reach user_1 (monday amount)) first_is ∙ x.reaches)

  second_reach : day_reach user_1 (day_of book 100 lent_64) ≡ reach user_1 (tuesday root) (tuesday_result amount root)
  unfolding day_reach
  second_reach =
      let a : accepted (call true book 100 lent_64).answer ≡ true = rw (second_is, y.answers) y.accepts in
      rw a (new_reach back writing wrote user_1 (call true book 100 lent_64) ∙ ap (reach user_1 (tuesday root)) second_is)

  last_cell : (q : ℕ) → q < 512 → cells_in (call true book 100 lent_64).memory q ≡ (end (tuesday_run amount root)).cells q
  last_cell q l =
      ap (λ (r : Result). cells_in r.memory q) second_is ∙ new_left back writing wrote (monday_cells amount) cells_left 100 8 lent_64 q l

  story : Story amount root last
  unfolding chain last_answer last_memory days_trace days_reach
  story = record {
    chain = chain;
    first_is = refl;
    later_is = refl;
    ends = ap inl (ap (λ (r : Result). r.answer) second_is ∙ y.answers);
    trace_is =
        (λ i. group_trace user_1 (first_is i) ++ group_trace user_1 (second_is i)) ∙ (λ i. x.shows i ++ y.shows i);
    reach_is = rw (first_reach, second_reach) y.reaches;
    cell_is = last_cell 8 (omega arith) ∙ y.leaves;
    next_is = last_cell 9 (omega arith) ∙ y.leaves_next;
  }

-- ---- two chains

-- the first books have one script, and no cell differs whose label lies inside
first_books : DifferOutside owners_1_3 (monday 900) (monday 40)
unfolding left_quick below same_amount inside_either alike monday
first_books = differ_outside owners_1_3 (monday 900) (monday 40) refl refl

itself : {b : Book} → SameScripts b b
itself = record { regions = refl; rights = refl; nodes = refl; programs = refl; triggers = refl }

-- ---- a chain that is refused

-- the answer of Monday's call with one more than the largest budget
refused_is : call true (monday 900) 1000001 lent_64 ≡ result (Refused (refusal_of reasons.Lent 0)) lent_64
unfolding call_quick monday
refused_is = ap (λ calling. calling (monday 900) 1000001 lent_64) call_is

not_run : NotRun
unfolding last_answer no_stop days_trace day_reach days_reach finished accepted call_quick
not_run = record {
  chain = record {
    first = monday 900;
    later = tuesday 9 ∷ [];
    days = breaks_off (record { budget = 1000001; before = lent_64; answer = Refused (refusal_of reasons.Lent 0); after = lent_64; runs = sym refused_is }) refl;
  };
  first_is = refl;
  later_is = refl;
  ends = refl;
  finishes_not = refl;
  trace_is = refl;
  reach_is = refl;
}

-- ---- all of them

module _ (back : ReadsBack) where
  compared : (root : ℕ) (last : Answer) → Tuesday 900 root last → Tuesday 40 root last → Compared root last
  unfolding chain story
  compared root last y y' =
      let first : Story 900 root last = story back 900 root last monday_900 y in
      record {
        first = first;
        second = story back 40 root last monday_40 y';
        differ = record { books = λ _ _. rw first.reach_is first_books; later = day_more (λ _ _. itself) no_day };
      }

  pub stories : Stories
  unfolding left_quick tuesday_with
  stories = record {
    stops = compared 9 (Stopped 27 6 17 8) stops_900 stops_40;
    finishes = compared 8 (Finished 7 8) finishes_900 finishes_40;
    forgotten = ap (λ calling. shown (calling (tuesday_with (cell 0 1 0 (pos 900) ∷ cell 0 2 0 (pos 900) ∷ []) 9) 100 lent_64)) call_is;
    refused = not_run;
  }
