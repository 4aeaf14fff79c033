-- The witnesses hold, by computation. Assumes nothing.
use mathlib.Core.Path.{◌≡◌, refl, sym, ap, ◌∙◌}
use mathlib.Core.List.{List, [], ◌∷◌, ◌++◌, map, append-nil}
use mathlib.Core.Bool.{Bool, true, false, false≢true}
use mathlib.Core.Logic.{inl, inr, ⊎_elim}
use Prim.Native.Nat.{ℕ, ◌≤◌, ◌<◌}
use native.Mathlib.Omega.{arith}
use lib.Dec.{eqb}
use lib.IntN.{ℤ}
use lib.ListN.{length, get_or, length-append}
use lib.Signed.{mag}
use borrow.Author.Tests.{eqb-false}
use Rattle.book.specs.Bytes.{byte}
use Rattle.book.specs.Layout.{decode}
use Rattle.book.specs.Refusals.{no_region, no_right, no_program}
use Rattle.book.specs.Tables.{w_file}
use Rattle.monitor.specs.Labelled.{Label, Lab}
use Rattle.monitor.specs.Run.{Cell}
use Rattle.labels.specs.Labels.{labels_by}
use Rattle.places.specs.Sets.{single}
use Rattle.book.specs.Start.{start_amounts, start_presence, remembered, start_labels}
use Rattle.monitor.specs.Call.{Memory, Result, cells_of, amounts_in, presence_in, labels_in, script, start_cells, start_state, run_book, call}
use Rattle.monitor.specs.Tables.{Shown, Row, told, lent, shown}
use Rattle.claims.specs.TwoBooks.{Group, accepted, group_trace, Begins, reach, InsideEither, SameInside, cells_in}
use Rattle.claims.specs.Undone.{standing_run}
use Rattle.claims.specs.Witnesses.{members, Reaching, reached, reaches, Reaches, Pair, result_of_row, Meets, both_finish, first_stops, second_stops, both_stop, Pairs, owner_1, Exclusions, Sides, joined_bytes, memory_of, over_at, over, broken, Leaks, NoLeaks, Terms, Undoes}
use Rattle.claims.proofs.Calls.{call_quick, call_is, left_quick, left_is}
use Rattle.claims.proofs.Inside.{below, same_amount, inside_either, alike, differ_outside, same_start, only_same, only_outside, only_beyond, from_memory, to_memory}

-- two things that are told apart by a number are not the same
unlike : {A : Type 0} (f : A → ℕ) {x y : A} → x ≡ y → eqb (f x) (f y) ≡ false → ⊥
unlike f {x} {y} e h = eqb-false (f x) (f y) h (ap f e)

-- ---- the reach

reached_by : (List ℕ → ℕ → Memory → Result) → ℤ → ℕ → Reaching → Shown × Label
reached_by calling z n x =
    let r : Result = calling x.row.of x.row.budget (lent z n x.row.trace) in
    (shown r, reach (members x.group) x.row.of r)

pub reach_witnesses : Reaches
unfolding call_quick w_file members reached reached_by reaches
reach_witnesses z n = ap (λ calling. map (reached_by calling z n) reaches) call_is

-- ---- pairs

-- what a pair says of two results, but for the cells
record Outcome : Type 0 where
  accepted_both : Bool × Bool
  reach_of : Label
  shown_of : Shown × Shown
  seen : List (List ℕ) × List (List ℕ)

outcome : Pair → Result → Result → Outcome
outcome p r r' =
    let g : Group = members p.group in
    record {
      accepted_both = (accepted r.answer, accepted r'.answer);
      reach_of = reach g p.first.of r;
      shown_of = (shown r, shown r');
      seen = (group_trace g r, group_trace g r');
    }

expected : Pair → Outcome
expected p = record { accepted_both = (true, true); reach_of = p.reach; shown_of = (p.first.shows, p.second.shows); seen = p.sees }

calls : (List ℕ → ℕ → Memory → Result) → Pair → ℤ → ℤ → ℕ → ℕ → Outcome
calls calling p z z' n n' =
    let r : Result = calling p.first.of p.first.budget (lent z n p.first.trace) in
    let r' : Result = calling p.second.of p.second.budget (lent z' n' p.second.trace) in
    outcome p r r'

left_cell : ℤ → ℕ → Row (List ℕ) → ℕ → Cell
left_cell z n row q = (left_quick row.of row.budget (lent z n row.trace) q).val

-- a pair is met if it is by the calls that compute quickly
module _ (p : Pair) (z z' : ℤ) (n n' : ℕ) where
  meets : script (decode p.first.of) ≡ script (decode p.second.of)
      → alike p.reach (decode p.first.of) (decode p.second.of) ≡ true
      → calls call_quick p z z' n n' ≡ expected p
      → p.lengths ≡ (length p.first.of, length p.second.of)
      → p.place < 512
      → p.cells ≡ (left_cell z n p.first p.place, left_cell z' n' p.second p.place)
      → Meets p (result_of_row z n p.first) (result_of_row z' n' p.second)
  unfolding result_of_row calls outcome expected left_cell
  meets scripts cells e lengths h c =
      let all : calls (call true) p z z' n n' ≡ expected p = rw call_is e in
      let first : accepted (result_of_row z n p.first).answer ≡ true = ap (λ o. o.accepted_both.0) all in
      let second : accepted (result_of_row z' n' p.second).answer ≡ true = ap (λ o. o.accepted_both.1) all in
      let known : reach (members p.group) p.first.of (result_of_row z n p.first) ≡ p.reach = ap (λ o. o.reach_of) all in
      let cell = left_is p.first.of p.first.budget (lent z n p.first.trace) first p.place h in
      let cell' = left_is p.second.of p.second.budget (lent z' n' p.second.trace) second p.place h in
      record {
        first_accepted = first;
        second_accepted = second;
        reach_is = known;
        differ = rw known (differ_outside p.reach p.first.of p.second.of scripts cells);
        lengths_are = lengths;
        first_shows = ap (λ o. o.shown_of.0) all;
        second_shows = ap (λ o. o.shown_of.1) all;
        sees_are = sym (ap (λ o. o.seen) all);
        cells_are = rw (cell, cell') c;
      }

pub pairs_met : Pairs
unfolding left_quick members below same_amount inside_either alike outcome expected calls left_cell both_finish first_stops second_stops both_stop
pairs_met =
    record {
      finish = λ z z' n n'. meets both_finish z z' n n' refl refl refl refl (omega arith) refl;
      one_stops = λ z z' n n'. meets first_stops z z' n n' refl refl refl refl (omega arith) refl;
      other_stops = λ z z' n n'. meets second_stops z z' n n' refl refl refl refl (omega arith) refl;
      stop = λ z z' n n'. meets both_stop z z' n n' refl refl refl refl (omega arith) refl;
    }

-- ---- exclusions

pub exclusions : Exclusions
unfolding left_quick w_file
exclusions = record {
  amount = λ d. unlike (λ c. mag c.val.amount) (same_start d 8 (omega arith) (record { holds = refl })) refl;
  there = λ d. false≢true (ap (λ c. c.val.present) (same_start d 15 (omega arith) (record { holds = refl })));
  gone = λ d. unlike (λ c. mag c.val.amount) (same_start d 8 (omega arith) (record { holds = refl })) refl;
  regions = λ d. unlike (λ rs. (get_or rs 1 no_region).owner_first) d.scripts.regions refl;
  rights = λ d. unlike (λ rs. (get_or rs 1 no_right).user) d.scripts.rights refl;
  order = λ d. unlike (λ rs. (get_or rs 0 no_right).user) d.scripts.rights refl;
  nodes = λ d. unlike length d.scripts.nodes refl;
  programs = λ d. unlike (λ ps. (get_or ps 0 no_program).root) d.scripts.programs refl;
  triggers = λ d. unlike length d.scripts.triggers refl;
}

-- ---- cells inside

amount_of : Lab Cell → ℕ
amount_of c = mag c.val.amount

word_of_label : Lab Cell → ℕ
word_of_label c = get_or c.lab 0 0

pub sides : Sides
unfolding left_quick amount_of word_of_label
sides = record {
  amounts = λ h. unlike amount_of (only_same 8 _ _ (omega arith) h (inl (record { holds = refl }))) refl;
  presence = λ h. false≢true (sym (ap (λ c. c.val.present) (only_same 8 _ _ (omega arith) h (inl (record { holds = refl })))));
  labels = λ h. unlike word_of_label (only_same 8 _ _ (omega arith) h (inl (record { holds = refl }))) refl;
  first_in = λ h. unlike word_of_label (only_same 8 _ _ (omega arith) h (inl (record { holds = refl }))) refl;
  second_in = λ h. unlike word_of_label (only_same 8 _ _ (omega arith) h (inr (record { holds = refl }))) refl;
  empty_in = λ h. unlike amount_of (only_same 8 _ _ (omega arith) h (inl (record { holds = refl }))) refl;
  outside = only_outside 8 _ _ owner_1 refl refl;
  last = λ h. unlike amount_of (only_same 511 _ _ (omega arith) h (inl (record { holds = refl }))) refl;
  beyond = only_beyond 512 _ _ owner_1 (omega arith);
}

-- ---- leaks

-- a byte of a record of a trace
byte_of : ℕ → ℕ → List (List ℕ) → ℕ
byte_of i k t = byte (get_or t i []) k

-- what two runs that tell the same leave at a place, if it is the same inside
same_left : (q : ℕ) (x y : Lab Cell) → q < 512 → length x.lab ≡ 8 → length y.lab ≡ 8
    → SameInside owner_1 (cells_in (over_at q (told 5 ∷ []) x).memory) (cells_in (over_at q (told 5 ∷ []) y).memory) → InsideEither owner_1 x y → x ≡ y
unfolding over_at
same_left q x y l h h' d i = only_same q x y l (from_memory owner_1 (told 5 ∷ []) (told 5 ∷ []) (told 7) (told 7) q x y h h' d) i

pub leaks : Leaks
unfolding left_quick members joined_bytes memory_of over_at over broken byte_of amount_of word_of_label
leaks = record {
  amounts = λ l. ⊎_elim (λ b. unlike (byte_of 0 4) b.is refl) (λ b. unlike (byte_of 0 4) b.is refl) l.begins;
  less = λ l. unlike (byte_of 0 0) (l.first_whole refl).is refl;
  less_first = λ l. unlike (byte_of 0 0) (l.first_whole refl).is refl;
  less_second = λ l. unlike (byte_of 0 0) (l.second_whole refl).is refl;
  neither = λ l. ⊎_elim (λ b. unlike (byte_of 1 4) b.is refl) (λ b. unlike (byte_of 1 4) b.is refl) l.begins;
  cell_amount = λ l. unlike amount_of (same_left 8 _ _ (omega arith) refl refl (l.cells refl refl) (inl (record { holds = refl }))) refl;
  cell_presence = λ l. false≢true (sym (ap (λ c. c.val.present) (same_left 8 _ _ (omega arith) refl refl (l.cells refl refl) (inl (record { holds = refl })))));
  cell_label = λ l. unlike word_of_label (same_left 8 _ _ (omega arith) refl refl (l.cells refl refl) (inl (record { holds = refl }))) refl;
  cell_last = λ l. unlike amount_of (same_left 511 _ _ (omega arith) refl refl (l.cells refl refl) (inl (record { holds = refl }))) refl;
  rights = λ l. ⊎_elim (λ b. unlike (byte_of 0 2) b.is refl) (λ b. unlike (byte_of 0 2) b.is refl) l.begins;
  right_more = λ l. unlike (byte_of 0 0) (l.second_whole refl).is refl;
}

pub no_leaks : NoLeaks
unfolding left_quick members joined_bytes memory_of over_at over broken
no_leaks = record {
  others = record {
    begins = inl (record { rest = []; is = refl });
    first_whole = λ e. record { rest = []; is = refl };
    second_whole = λ e. record { rest = []; is = refl };
    traces = λ e e'. refl;
    cells = λ e e'. record { same = λ q l i. refl };
  };
  cell_outside = record {
    begins = inl (record { rest = []; is = refl });
    first_whole = λ e. record { rest = []; is = refl };
    second_whole = λ e. record { rest = []; is = refl };
    traces = λ e e'. refl;
    cells = λ e e'. to_memory owner_1 (told 5 ∷ []) (told 5 ∷ []) (told 7) (told 7) 8 _ _ refl refl (only_outside 8 _ _ owner_1 refl refl);
  };
  cut_short = record {
    begins = inr (record { rest = told 6 ∷ []; is = refl });
    first_whole = λ e. record { rest = told 6 ∷ []; is = refl };
    second_whole = λ e. absurd (false≢true e);
    traces = λ e e'. absurd (false≢true e');
    cells = λ e e'. absurd (false≢true e');
  };
  not_counted = record {
    begins = inl (record { rest = []; is = refl });
    first_whole = λ e. absurd (false≢true e);
    second_whole = λ e. record { rest = []; is = refl };
    traces = λ e e'. absurd (false≢true e);
    cells = λ e e'. absurd (false≢true e);
  };
}

-- ---- the terms

begins_both : (x y : List (List ℕ)) → Begins x y → Begins y x → x ≡ y
begins_both x y a b = go a.rest a.is (omega (arith, simp length-append at (ap length b.is), ap length a.is))
  where
    go : (rest : List (List ℕ)) → x ++ rest ≡ y → length (x ++ rest) ≤ length x → x ≡ y
    go [] e h = sym (append-nil x) ∙ e
    go (r ∷ rest) e h = absurd (let z : ⊥ = omega (arith, simp length-append at h) in z)

pub terms : Terms
unfolding left_quick members byte_of
terms = record {
  accepting = refl;
  finishing = refl;
  to_member = refl;
  to_other = refl;
  none_begins = record { rest = told 5 ∷ []; is = refl };
  all_begins = record { rest = []; is = refl };
  more_not = λ b. unlike (byte_of 1 0) b.is refl;
  other_not = λ b. unlike (byte_of 0 4) b.is refl;
  both_begin = begins_both;
}

-- ---- what a stop takes back

pub undoes : Undoes
unfolding left_quick cells_of amounts_in presence_in labels_in start_cells start_state run_book start_amounts start_presence labels_by remembered start_labels single standing_run
undoes = record { stands = λ m. refl; undone = λ m. refl; answers = λ m. (refl, refl) }
