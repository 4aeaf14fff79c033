-- What two sides show a group, day by day: of one day more, where both go on, where one ends, and where both do. Assumes nothing.
use mathlib.Core.Path.{◌≡◌, sym, ap, ◌∙◌}
use mathlib.Core.List.{List, [], ◌++◌, append_assoc}
use mathlib.Core.Logic.{◌⊎◌, inl, inr}
use mathlib.Core.Bool.{Bool, true, false, false≢true}
use Prim.Native.Nat.{ℕ}
use Rattle.monitor.specs.Labelled.{Label, Lab}
use Rattle.monitor.specs.Run.{Cell}
use Rattle.claims.specs.TwoBooks.{Begins, SameInside}

-- one side: its trace, whether it finishes, and its cells
pub record Side : Type 0 where
  pub trace : List (List ℕ)
  pub whole : Bool
  pub cells : ℕ → Lab Cell

pub record Told (R : Label) (x y : Side) : Type 0 where
  pub begins : Begins x.trace y.trace ⊎ Begins y.trace x.trace
  pub first_whole : x.whole ≡ true → Begins y.trace x.trace
  pub second_whole : y.whole ≡ true → Begins x.trace y.trace
  pub traces : x.whole ≡ true → y.whole ≡ true → x.trace ≡ y.trace
  pub cells : x.whole ≡ true → y.whole ≡ true → SameInside R x.cells y.cells

-- ---- beginnings

begins_none : (x : List (List ℕ)) → Begins [] x
begins_none x = record { rest = x; is = λ i. x }

begins_more : {x y : List (List ℕ)} (z : List (List ℕ)) → Begins x y → Begins x (y ++ z)
begins_more {x} {y} z b = record { rest = b.rest ++ z; is = sym (append_assoc x b.rest z) ∙ ap (λ l. l ++ z) b.is }

begins_after : (x : List (List ℕ)) {y z : List (List ℕ)} → Begins y z → Begins (x ++ y) (x ++ z)
begins_after x {y} b = record { rest = b.rest; is = append_assoc x y b.rest ∙ ap (λ l. x ++ l) b.is }

-- no side that ended early is whole
not_whole : {A : Type 0} {f : Bool} → f ≡ false → f ≡ true → A
not_whole e h = absurd (false≢true (sym e ∙ h))

-- ---- sides that show nothing

pub first_silent : {R : Label} {x y : Side} → x.trace ≡ [] → x.whole ≡ false → Told R x y
first_silent {x = x} {y = y} e h =
    let none : Begins x.trace y.trace = rw e (begins_none y.trace) in
    record {
      begins = inl none;
      first_whole = not_whole h;
      second_whole = λ _. none;
      traces = not_whole h;
      cells = not_whole h;
    }

pub second_silent : {R : Label} {x y : Side} → y.trace ≡ [] → y.whole ≡ false → Told R x y
second_silent {x = x} {y = y} e h =
    let none : Begins y.trace x.trace = rw e (begins_none x.trace) in
    record {
      begins = inr none;
      first_whole = λ _. none;
      second_whole = not_whole h;
      traces = λ _. not_whole h;
      cells = λ _. not_whole h;
    }

-- ---- one day, and the days after it

-- a side with this day before it
abbrev pub before : List (List ℕ) → Side → Side
before x s = record { trace = x ++ s.trace; whole = s.whole; cells = s.cells }

-- a side that ends with the day
abbrev pub ending : List (List ℕ) → Bool → (ℕ → Lab Cell) → Side
ending x whole cells = record { trace = x; whole = whole; cells = cells }

module _ {R : Label} {x y : Side} (t : Told R x y) where
  pub both_end : {f f' : Bool} {c c' : ℕ → Lab Cell} → f ≡ false → f' ≡ false → Told R (ending x.trace f c) (ending y.trace f' c')
  both_end e e' = record {
    begins = t.begins;
    first_whole = not_whole e;
    second_whole = not_whole e';
    traces = not_whole e;
    cells = not_whole e;
  }

  pub first_ends : {f : Bool} {c : ℕ → Lab Cell} (s : Side) → f ≡ false → y.whole ≡ true → Told R (ending x.trace f c) (before y.trace s)
  first_ends s e h =
      let b : Begins x.trace (y.trace ++ s.trace) = begins_more s.trace (t.second_whole h) in
      record {
        begins = inl b;
        first_whole = not_whole e;
        second_whole = λ _. b;
        traces = not_whole e;
        cells = not_whole e;
      }

  pub second_ends : {f : Bool} {c : ℕ → Lab Cell} (s : Side) → x.whole ≡ true → f ≡ false → Told R (before x.trace s) (ending y.trace f c)
  second_ends s h e =
      let b : Begins y.trace (x.trace ++ s.trace) = begins_more s.trace (t.first_whole h) in
      record {
        begins = inr b;
        first_whole = λ _. b;
        second_whole = not_whole e;
        traces = λ _. not_whole e;
        cells = λ _. not_whole e;
      }

  pub both_go_on : {s s' : Side} → x.whole ≡ true → y.whole ≡ true → Told R s s' → Told R (before x.trace s) (before y.trace s')
  both_go_on {s} {s'} h h' u =
      let e : y.trace ≡ x.trace = sym (t.traces h h') in
      rw e record {
        begins = begin u.begins;
        first_whole = λ f. begins_after x.trace (u.first_whole f);
        second_whole = λ f. begins_after x.trace (u.second_whole f);
        traces = λ f f'. ap (λ l. x.trace ++ l) (u.traces f f');
        cells = u.cells;
      }
    where
      begin : Begins s.trace s'.trace ⊎ Begins s'.trace s.trace
          → Begins (x.trace ++ s.trace) (x.trace ++ s'.trace) ⊎ Begins (x.trace ++ s'.trace) (x.trace ++ s.trace)
      begin (inl b) = inl (begins_after x.trace b)
      begin (inr b) = inr (begins_after x.trace b)
