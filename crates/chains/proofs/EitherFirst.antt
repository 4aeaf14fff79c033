-- Either of two chains may be called the first: what is compared, and what is learned, may be turned round. Assumes nothing.
use mathlib.Core.Path.{sym}
use mathlib.Core.List.{List}
use mathlib.Core.Logic.{◌⊎◌, inl, inr}
use Prim.Native.Nat.{ℕ}
use Rattle.monitor.specs.Labelled.{Label, Lab}
use Rattle.monitor.specs.Run.{Cell}
use Rattle.claims.specs.TwoBooks.{Group, SameInside, DifferOutside}
use Rattle.chains.specs.Chains.{Chain, SameDays, no_day, day_more, ChainsDifferOutside}
use Rattle.chains.specs.Claims.{LearnsNothingOverDays, Demand3OverDays, EitherFirst}
use Rattle.chains.proofs.Written.{scripts_sym}

swap : {A B : Type 0} → A ⊎ B → B ⊎ A
swap (inl a) = inr a
swap (inr b) = inl b

inside_sym : {R : Label} {x y : ℕ → Lab Cell} → SameInside R x y → SameInside R y x
inside_sym h = record { same = λ q l i. sym (h.same q l (swap i)) }

differ_sym : {R : Label} {file file' : List ℕ} → DifferOutside R file file' → DifferOutside R file' file
differ_sym d = record { scripts = scripts_sym d.scripts; cells = inside_sym d.cells }

days_sym : {later later' : List (List ℕ)} → SameDays later later' → SameDays later' later
days_sym no_day = no_day
days_sym (day_more s more) = day_more (λ a a'. scripts_sym (s a' a)) (days_sym more)

chains_sym : {R : Label} {c c' : Chain} → ChainsDifferOutside R c c' → ChainsDifferOutside R c' c
chains_sym h = record { books = λ a a'. differ_sym (h.books a' a); later = days_sym h.later }

learns_sym : {g : Group} {R : Label} {c c' : Chain} → LearnsNothingOverDays g R c c' → LearnsNothingOverDays g R c' c
learns_sym l = record {
  begins = swap l.begins;
  first_whole = l.second_whole;
  second_whole = l.first_whole;
  traces = λ f f'. sym (l.traces f' f);
  cells = λ f f'. inside_sym (l.cells f' f);
}

pub either_first : Demand3OverDays → EitherFirst
either_first claim g c c' h = learns_sym (claim g c' c (chains_sym h))
