-- Demand 3 over days, by induction over the days with any set that holds the reach of the first chain. Assumes nothing.
use mathlib.Core.Path.{◌≡◌, refl, sym, ap, ◌∙◌}
use mathlib.Core.List.{List, []}
use mathlib.Core.Logic.{inr}
use mathlib.Core.Bool.{Bool, true, false, false≢true, true≢false}
use Prim.Native.Nat.{ℕ}
use lib.ListN.{take}
use Rattle.places.specs.Sets.{Within}
use Rattle.places.proofs.Sets.{within_refl, within_trans, within_union_left, within_union_right}
use Rattle.book.specs.Refusals.{need, verdict, Verdict}
use Rattle.std.specs.Prelude.{Ok, Err}
use Rattle.book.proofs.Verdicts.{accepts_both}
use Rattle.monitor.specs.Labelled.{Label}
use Rattle.monitor.specs.Call.{Memory, Result, values, cut, trace_records, call_verdict, answered, call}
use Rattle.monitor.specs.declared.Answer.{Answer}
use Rattle.monitor.specs.declared.Answer.TheVariants.{Refused, Stopped, Finished}
use Rattle.claims.specs.TwoBooks.{Group, accepted, finished, visible_in, group_trace, DifferOutside, cells_in}
use Rattle.claims.specs.Claims.{LearnsNothing}
use Rattle.entry.specs.Entry.{result}
use Rattle.entry.proofs.Claims.{demand3_within}
use Rattle.writer.specs.Claims.{ReadsBack}
use Rattle.writer.specs.Write.{Written}
use Rattle.chains.specs.Chains.{Day, day_result, Writing, Days, last_day, breaks_off, not_written, goes_on, Chain, last_answer, no_stop, last_memory, days_trace, day_reach, days_reach, SameDays, no_day, day_more}
use Rattle.chains.specs.Claims.{LearnsNothingOverDays, Demand3OverDays}
use Rattle.chains.proofs.Written.{next_differ}
use Rattle.chains.proofs.Told.{Side, Told, first_silent, second_silent, both_end, first_ends, second_ends, both_go_on}
use Rattle.book.specs.declared.Reason.TheVariants as reasons

-- ---- one day of each

-- a book whose run is not refused is accepted
book_accepted : {book : List ℕ} (d : Day book) → accepted d.answer ≡ true → verdict book ≡ Ok tt
unfolding call answered accepted call_verdict
book_accepted {book} d a =
    (accepts_both (need reasons.Lent _) (verdict book) (go (call_verdict book d.budget d.before) (sym (ap (λ (x : Result). accepted x.answer) d.runs) ∙ a))).1
  where
    go : (v : Verdict) → accepted (answered true book d.budget d.before v).answer ≡ true → v ≡ Ok tt
    go (Ok _) h = refl
    go (Err refusal) h = absurd (false≢true h)

-- one that is refused shows nothing and does not finish
silent : (g : Group) (r : Answer) (m : Memory) → accepted r ≡ false → (group_trace g (result r m) ≡ []) × (finished r ≡ false)
unfolding accepted finished group_trace visible_in trace_records values cut
silent g (Refused refusal) m h = (refl, refl)
silent g (Stopped number node cost bytes) m h = absurd (true≢false h)
silent g (Finished cost bytes) m h = absurd (true≢false h)

abbrev day_side : Group → {book : List ℕ} → Day book → Side
day_side g d = record { trace = group_trace g (day_result d); whole = finished d.answer; cells = cells_in d.after }

told : (g : Group) (R : Label) {book book' : List ℕ} (d : Day book) (d' : Day book')
    → LearnsNothing g R (day_result d) (day_result d') → Told R (day_side g d) (day_side g d')
told g R d d' l = record { begins = l.begins; first_whole = l.first_whole; second_whole = l.second_whole; traces = l.traces; cells = l.cells }

module _ (g : Group) (R : Label) {book book' : List ℕ} (d : Day book) (d' : Day book')
    (differ : verdict book ≡ Ok tt → verdict book' ≡ Ok tt → DifferOutside R book book')
    (holds : Within (day_reach g d) R) where
  two_days : Told R (day_side g d) (day_side g d')
  unfolding day_reach
  two_days = go (accepted d.answer) (accepted d'.answer) refl refl
    where
      go : (a a' : Bool) → accepted d.answer ≡ a → accepted d'.answer ≡ a' → Told R (day_side g d) (day_side g d')
      go false a' e e' =
          let s = silent g d.answer d.after e in
          first_silent s.0 s.1
      go true false e e' =
          let s = silent g d'.answer d'.after e' in
          second_silent s.0 s.1
      go true true e e' =
          told g R d d'
          (demand3_within g R book book' d.budget d'.budget d.before d'.before d.after d'.after d.answer d'.answer
          d.runs d'.runs e e' (rw e at holds) (differ (book_accepted d e) (book_accepted d' e')))

-- ---- all days

abbrev side : Group → {book : List ℕ} {later : List (List ℕ)} → Days book later → Side
side g d = record { trace = days_trace g d; whole = no_stop (last_answer d); cells = cells_in (last_memory d) }

-- a chain whose next book was refused by the writer does not finish
refused_ends : (w : Written) → no_stop (inr w) ≡ false
unfolding no_stop
refused_ends w = refl

-- a set that holds the reach of a chain that goes on holds that of its first day, and that of the days after it
module _ (g : Group) (R : Label) {book file : List ℕ} {later : List (List ℕ)} (d : Day book) (f : finished d.answer ≡ true)
    (w : Writing file d.after) (n : ℕ) (e : w.answer ≡ Ok n) (rest : Days (take n w.written) later)
    (h : Within (days_reach g (goes_on d f w n e rest)) R) where
  first_holds : Within (day_reach g d) R
  unfolding days_reach
  first_holds = within_trans (within_union_left _ _) h

  rest_holds : Within (days_reach g rest) R
  unfolding days_reach
  rest_holds = within_trans (within_union_right _ _) h

module _ (back : ReadsBack) (g : Group) (R : Label) where
  over_days : {book book' : List ℕ} {later later' : List (List ℕ)} (d : Days book later) (d' : Days book' later') → SameDays later later'
      → (verdict book ≡ Ok tt → verdict book' ≡ Ok tt → DifferOutside R book book')
      → Within (days_reach g d) R → Told R (side g d) (side g d')
  unfolding last_answer no_stop last_memory days_trace days_reach
  over_days (last_day d) (last_day d') no_day b h = two_days g R d d' b h
  over_days (last_day d) (breaks_off d' e') x b h = elim x [ ]
  over_days (last_day d) (not_written d' f' w' refusal' e') x b h = elim x [ ]
  over_days (last_day d) (goes_on d' f' w' n' e' rest') x b h = elim x [ ]
  over_days (breaks_off d e) (last_day d') x b h = elim x [ ]
  over_days (not_written d f w refusal e) (last_day d') x b h = elim x [ ]
  over_days (goes_on d f w n e rest) (last_day d') x b h = elim x [ ]
  over_days (breaks_off d e) (breaks_off d' e') (day_more s more) b h = both_end (two_days g R d d' b h) e e'
  over_days (breaks_off d e) (not_written d' f' w' refusal' e') (day_more s more) b h =
      both_end (two_days g R d d' b h) e (refused_ends w'.answer)
  over_days (not_written d f w refusal e) (breaks_off d' e') (day_more s more) b h =
      both_end (two_days g R d d' b h) (refused_ends w.answer) e'
  over_days (not_written d f w refusal e) (not_written d' f' w' refusal' e') (day_more s more) b h =
      both_end (two_days g R d d' b h) (refused_ends w.answer) (refused_ends w'.answer)
  over_days (breaks_off d e) (goes_on d' f' w' n' e' rest') (day_more s more) b h = first_ends (two_days g R d d' b h) (side g rest') e f'
  over_days (not_written d f w refusal e) (goes_on d' f' w' n' e' rest') (day_more s more) b h =
      first_ends (two_days g R d d' b h) (side g rest') (refused_ends w.answer) f'
  over_days (goes_on d f w n e rest) (breaks_off d' e') (day_more s more) b h =
      second_ends (two_days g R d d' b (first_holds g R d f w n e rest h)) (side g rest) f e'
  over_days (goes_on d f w n e rest) (not_written d' f' w' refusal' e') (day_more s more) b h =
      second_ends (two_days g R d d' b (first_holds g R d f w n e rest h)) (side g rest) f (refused_ends w'.answer)
  over_days (goes_on d f w n e rest) (goes_on d' f' w' n' e' rest') (day_more s more) b h =
      let t = two_days g R d d' b (first_holds g R d f w n e rest h) in
      both_go_on t f f'
      (over_days rest rest' more (λ _ _. next_differ back w w' e e' s (t.cells f f')) (rest_holds g R d f w n e rest h))

  learns : (c c' : Chain) → Told R (side g c.days) (side g c'.days) → LearnsNothingOverDays g R c c'
  learns c c' t =
      record { begins = t.begins; first_whole = t.first_whole; second_whole = t.second_whole; traces = t.traces; cells = t.cells }

pub demand3_over_days : ReadsBack → Demand3OverDays
demand3_over_days back g c c' h =
    let R = days_reach g c.days in
    learns back g R c c' (over_days back g R c.days c'.days h.later h.books (within_refl R))
