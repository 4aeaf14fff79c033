-- Demand 3 on the rules: two runs of one script from states that agree inside R, a set that holds the group's reach. Assumes nothing.
use mathlib.Core.Path.{◌≡◌, sym, ap, ◌∙◌}
use mathlib.Core.List.{List, [], append-nil}
use mathlib.Core.Logic.{◌⊎◌, inl, inr}
use mathlib.Core.Bool.{true, false≢true}
use Prim.Native.Nat.{ℕ}
use Rattle.places.specs.Sets.{Within}
use Rattle.book.specs.Records.{Book}
use Rattle.book.specs.Start.{public_set}
use Rattle.monitor.specs.Labelled.{Label, Lab}
use Rattle.monitor.specs.Run.{Cell, State, Rec, Out}
use Rattle.monitor.specs.Rules.{monitored, run}
use Rattle.claims.specs.TwoBooks.{Group, InsideEither}
use Rattle.claims.proofs.Views.{records, end, is_done, seen_of, gift, gifts, Begun}
use Rattle.claims.proofs.Low.{Hidden, within?, Same, equal, hidden, same_inside, same_sym}
use Rattle.claims.proofs.Steps.{Match, both, first_stops, second_stops, beyond, Both}
use Rattle.claims.proofs.Flow.{view, pair_run}

-- what two runs show a group
pub record Agree (g : Group) (R : Label) (o o' : Out (Unit {0})) : Type 0 where
  pub begins : Begun (seen_of g (records o)) (seen_of g (records o')) ⊎ Begun (seen_of g (records o')) (seen_of g (records o))
  pub first_whole : is_done o ≡ true → Begun (seen_of g (records o')) (seen_of g (records o))
  pub second_whole : is_done o' ≡ true → Begun (seen_of g (records o)) (seen_of g (records o'))
  pub traces : is_done o ≡ true → is_done o' ≡ true → seen_of g (records o) ≡ seen_of g (records o')
  pub cells : is_done o ≡ true → is_done o' ≡ true → (q : ℕ) → InsideEither R ((end o).cells q) ((end o').cells q) → (end o).cells q ≡ (end o').cells q

-- cells that are equal wherever one of the two lies inside R
same_cells : {R : Label} {x y : Lab Cell} → (InsideEither R x y → x ≡ y) → Same R x y
same_cells {R} {x} {y} h = go (within? x.lab R) (within? y.lab R)
  where
    go : Within x.lab R ⊎ Hidden R x.lab → Within y.lab R ⊎ Hidden R y.lab → Same R x y
    go (inl l) d = equal (h (inl l))
    go (inr k) (inl l) = equal (h (inr l))
    go (inr k) (inr k') = hidden k k'

equal_cells : {R : Label} {x y : Lab Cell} → Same R x y → InsideEither R x y → x ≡ y
equal_cells e (inl l) = same_inside e l
equal_cells e (inr l) = sym (same_inside (same_sym e) l)

begun_same : {x y : List Rec} → x ≡ y → Begun x y
begun_same {x} e = record { rest = []; is = append-nil x ∙ e }

agree : (b : Book) (g : Group) (R : Label) {o o' : Out (Unit {0})}
    → Within (gifts (gift b g) (records o)) R → Match (view b g R) Both o o' → Agree g R o o'
unfolding records end is_done
agree b g R l (both e r q) = record {
  begins = inl (begun_same e);
  first_whole = λ _. begun_same (sym e);
  second_whole = λ _. begun_same e;
  traces = λ _ _. e;
  cells = λ _ _ q. equal_cells (r.cells q);
}
agree b g R l (first_stops f) = record {
  begins = inl f;
  first_whole = λ d. absurd (false≢true d);
  second_whole = λ _. f;
  traces = λ d _. absurd (false≢true d);
  cells = λ d _. absurd (false≢true d);
}
agree b g R l (second_stops f) = record {
  begins = inr f;
  first_whole = λ _. f;
  second_whole = λ d. absurd (false≢true d);
  traces = λ _ d. absurd (false≢true d);
  cells = λ _ d. absurd (false≢true d);
}
agree b g R l (beyond h) = absurd (h l)

pub two_runs : (b : Book) (g : Group) (R : Label) (s s' : State) (fuel fuel' : ℕ)
    → s.rights ≡ s'.rights → s.vars ≡ s'.vars
    → Within (public_set b) R → ((u : ℕ) → g u ≡ true → Within (s.rights.read u) R)
    → ((q : ℕ) → InsideEither R (s.cells q) (s'.cells q) → s.cells q ≡ s'.cells q)
    → Within (gifts (gift b g) (records (run b monitored fuel s))) R
    → Agree g R (run b monitored fuel s) (run b monitored fuel' s')
two_runs b g R s s' fuel fuel' rights vars public read cells gifts =
    agree b g R gifts (pair_run b g R public fuel fuel' s s'
    (record { cells = λ q. same_cells (cells q); vars = λ p. equal (ap (λ f. f p) vars); rights = rights; safe = record { safe = read } }))
