-- A chain of one day is that day: demand 3 of two runs is demand 3 of two such chains. Assumes nothing.
use mathlib.Core.Path.{◌≡◌, refl, subst}
use mathlib.Core.List.{List}
use mathlib.Core.Bool.{true}
use Prim.Native.Nat.{ℕ}
use Rattle.monitor.specs.Labelled.{Label}
use Rattle.claims.specs.TwoBooks.{Group, accepted, reach, DifferOutside}
use Rattle.claims.specs.Claims.{LearnsNothing}
use Rattle.entry.specs.Claims.{Demand3}
use Rattle.chains.specs.Chains.{Day, day_result, last_answer, no_stop, last_memory, days_trace, day_reach, days_reach, no_day, chain_reach}
use Rattle.chains.specs.Claims.{LearnsNothingOverDays, Demand3OverDays, one_day, OneDay}

reach_same : (g : Group) {book : List ℕ} (d : Day book) → accepted d.answer ≡ true → chain_reach g (one_day d) ≡ reach g book (day_result d)
unfolding day_reach days_reach
reach_same g d a = rw a

-- what two chains of one day tell, their days do
learns_of_day : {g : Group} {R : Label} {book book' : List ℕ} (d : Day book) (d' : Day book')
    → LearnsNothingOverDays g R (one_day d) (one_day d') → LearnsNothing g R (day_result d) (day_result d')
unfolding days_trace last_answer no_stop last_memory
learns_of_day d d' l =
    record { begins = l.begins; first_whole = l.first_whole; second_whole = l.second_whole; traces = l.traces; cells = l.cells }

module _ (claim : Demand3OverDays) (g : Group) {book book' : List ℕ} (d : Day book) (d' : Day book') (a : accepted d.answer ≡ true) where
  of_day : DifferOutside (reach g book (day_result d)) book book' → LearnsNothing g (reach g book (day_result d)) (day_result d) (day_result d')
  of_day h =
      let e = reach_same g d a in
      subst (λ R. LearnsNothing g R (day_result d) (day_result d')) e
      (learns_of_day d d' (claim g (one_day d) (one_day d') (record { books = λ _ _. rw e h; later = no_day })))

demand3_back : Demand3OverDays → Demand3
demand3_back claim g file file' budget budget' before before' after after' r r' e e' a a' h =
    of_day claim g
    (record { budget = budget; before = before; answer = r; after = after; runs = e })
    (record { budget = budget'; before = before'; answer = r'; after = after'; runs = e' })
    a h

pub one_day_is : OneDay
unfolding days_trace last_answer no_stop last_memory
one_day_is = record {
  trace = λ g d. refl;
  finishes = λ d. refl;
  cells = λ d. refl;
  reach_is = reach_same;
  gives_back = demand3_back;
}
