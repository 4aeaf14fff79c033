-- What a run gives, from what its parts give: the cost of its node, one part after another, a value held to 32 bits. Assumes nothing.
use mathlib.Core.Path.{◌≡◌, refl, sym, ap, ◌∙◌, subst}
use mathlib.Core.List.{List}
use mathlib.Core.Bool.{true, false}
use Prim.Native.Nat.{ℕ, zero, suc, ◌≤◌, ◌<◌}
use native.Mathlib.Nat.{le_refl, le_trans}
use native.Mathlib.Omega.{arith}
use lib.IntN.{ℤ}
use lib.Signed.{mag}
use mir.Syntax.{w32}
use mir.Val.{SFits, to_z, of_z}
use mir.Facts.{to_z-of_z}
use borrow.Author.Tests.{le-leb, lt-leb, lt-ltb, le-ltb}
use Rattle.std.specs.Prelude.{Option, Some, None, Result, Ok, Err}
use Rattle.std.specs.Result.{OkIff}
use Rattle.std.proofs.lemmas.Result.{OkIff-at_ok, OkIff-at_err}
use Rattle.places.specs.Sets.{union}
use Rattle.book.specs.Kinds.{cost_of}
use Rattle.book.specs.Refusals.{node_at}
use Rattle.book.proofs.Costs.{cost_positive}
use Rattle.monitor.specs.Labelled.{Label, bottom, Lab}
use Rattle.monitor.specs.Run.{Cell, Rights, State, Out, M, next, ◌>>=◌, guard, pay}
use Rattle.monitor.specs.Rules.{fits_32, ranged, found, eval}
use Rattle.machine.specs.Script.{script_of}
use Rattle.machine.specs.Promises.{Stops, Paid, Short, given, Gives, Evaluates, Expresses, Value, stopped}
use Rattle.machine.specs.declared.lent.Run.{Run}
use Rattle.machine.specs.declared.lent.Sets.{Sets}
use Rattle.machine.proofs.Runs.{after_none, next_known, next_failed, need_holds, need_fails}

abbrev pub labelled : ℤ → Label → Lab ℤ
labelled z label = record { val = z; lab = label }

abbrev standing : (ℕ → Lab Cell) → (ℕ → Lab ℤ) → Rights → ℕ → Run → State
standing cells vars rights room run = record { cells = cells; vars = vars; rights = rights; left = run.left; room = room }

module _ {cells : ℕ → Lab Cell} {vars : ℕ → Lab ℤ} where
  -- the same run, written otherwise
  pub gives_as : {m m' : ℕ → M (Lab ℤ)} {run : Run} {before : Label} {r : Value} {run' : Run} {after : Label}
      → ((fuel : ℕ) → m fuel ≡ m' fuel) → Gives m' cells vars run before r run' after → Gives m cells vars run before r run' after
  gives_as {run = run} {before = before} {r = r} {run' = run'} {after = after} e g =
      subst (λ (m : ℕ → M (Lab ℤ)). Gives m cells vars run before r run' after) (sym (λ i fuel. e fuel i)) g

  -- one part after another; the rest says what becomes of the lent label
  module _ {m : ℕ → M (Lab ℤ)} {run : Run} {before : Label} {v : Value} {run' : Run} {after : Label}
      (g : Gives m cells vars run before v run' after) (k : ℕ → Lab ℤ → M (Lab ℤ)) {lent last : Label} where
    -- a part that stops is passed upward
    pub stops_at : v ≡ Err stopped → Gives (λ fuel. m fuel >>= k fuel) cells vars run lent (Err stopped) run' last
    unfolding given
    stops_at e = record {
      label = bottom;
      is = λ fuel h rights room sets. ap (λ (o : Out (Lab ℤ)). next o (k fuel)) (g.is fuel h rights room sets) ∙ next_failed v g.label run' sets _ (k fuel) e;
      within = g.within;
      used_same = g.used_same;
      joined = λ q. cc;
    }

    -- a part whose value is known, and the rest with what is left
    pub goes_on : {r : Value} {run'' : Run} (z : ℤ) → v ≡ Ok z
        → Gives (λ fuel. k fuel (labelled z g.label)) cells vars run' lent r run'' last → Gives (λ fuel. m fuel >>= k fuel) cells vars run lent r run'' last
    goes_on z e rest = record {
      label = rest.label;
      is = λ fuel h rights room sets. ap (λ (o : Out (Lab ℤ)). next o (k fuel)) (g.is fuel h rights room sets)
          ∙ next_known v g.label run' sets _ (k fuel) z e
          ∙ rest.is fuel (le_trans g.within h) rights room sets;
      within = le_trans rest.within g.within;
      used_same = rest.used_same ∙ g.used_same;
      joined = rest.joined;
    }

-- ---- 22

-- a value that is held to 32 bits gives r, whatever its label
pub record Held (n : ℕ) (z : ℤ) (run : Run) (r : Value) (run' : Run) : Type 0 where
  pub gives : (cells : ℕ → Lab Cell) (vars : ℕ → Lab ℤ) (label before after : Label) → after ≡ union before label
      → Gives (λ fuel. ranged n (labelled z label)) cells vars run before r run' after

pub fits_held : {n : ℕ} {z : ℤ} {run : Run} → fits_32 z ≡ true → Held n z run (Ok z) run
unfolding ranged given
fits_held {n} {z} {run} e = record {
  gives = λ cells vars label before after j. record {
    label = label;
    is = λ fuel h rights room sets. need_holds _ 22 n _ (standing cells vars rights room run) e;
    within = le_refl run.left;
    used_same = refl;
    joined = λ _. j;
  };
}

pub stop_held : {n : ℕ} {z : ℤ} {run run' : Run} → fits_32 z ≡ false → Stops run 22 n run' → Held n z run (Err stopped) run'
unfolding ranged given
stop_held {n} {z} {run} e s = record {
  gives = λ cells vars label before after j. record {
    label = label;
    is = λ fuel h rights room sets. rw (s.number_is, s.node_is, s.left_same) (need_fails _ 22 n _ (standing cells vars rights room run) e);
    within = omega (arith, s.left_same);
    used_same = s.used_same;
    joined = λ q. cc;
  };
}

-- a number of 64 bits that is converted to 32
module _ {E : Type 0} {n : ℕ} {z : ℤ} {run : Run} {r : Result ℤ E} (c : OkIff r (SFits w32 z) z) where
  pub converted : {x : ℤ} → r ≡ Ok x → Held n z run (Ok (to_z w32 (of_z w32 x))) run
  unfolding fits_32
  converted {x} e =
      let p = OkIff-at_ok r (SFits w32 z) z x c e in
      rw (p.1, to_z-of_z p.0) (fits_held (lt-ltb (mag z) 2147483648 p.0.sfits))

  pub unconverted : {e : E} {run' : Run} → r ≡ Err e → Stops run 22 n run' → Held n z run (Err stopped) run'
  unfolding fits_32
  unconverted {e} q s =
      let large : 2147483648 ≤ mag z = omega (arith, λ (h : mag z < 2147483648). OkIff-at_err r (SFits w32 z) z e c q (record { sfits = h })) in
      stop_held (le-ltb (mag z) 2147483648 large) s

-- ---- 31

-- what a query found gives r, whatever its label
pub record Answered (n : ℕ) (a : Option ℤ) (run : Run) (r : Value) (run' : Run) : Type 0 where
  pub gives : (cells : ℕ → Lab Cell) (vars : ℕ → Lab ℤ) (label before after : Label) → after ≡ union before label
      → Gives (λ fuel. found n label a) cells vars run before r run' after

pub exact_answered : {n : ℕ} {a : Option ℤ} {z : ℤ} {run : Run} {r : Value} {run' : Run} → a ≡ Some z → Held n z run r run' → Answered n a run r run'
unfolding found
exact_answered e h = record { gives = rw e h.gives }

pub nothing_answered : {n : ℕ} {a : Option ℤ} {run run' : Run} → a ≡ None → Stops run 31 n run' → Answered n a run (Err stopped) run'
unfolding found given
nothing_answered e s = record {
  gives = λ cells vars label before after j. record {
    label = label;
    is = λ fuel h rights room sets. rw (e, s.number_is, s.node_is, s.left_same);
    within = omega (arith, s.left_same);
    used_same = s.used_same;
    joined = λ q. cc;
  };
}

-- ---- 21: a node on entry

abbrev cost : List ℕ → ℕ → ℕ
cost code n = cost_of (node_at (script_of code) n).kind

module _ (code : List ℕ) (n : ℕ) {cells : ℕ → Lab Cell} {vars : ℕ → Lab ℤ} {run run₁ : Run} {before after : Label} where
  -- the cost would pass the budget
  pub unpaid : Short run (cost code n) n run₁ → Gives (Evaluates code n) cells vars run before (Err stopped) run₁ after
  unfolding eval next given pay guard
  unpaid s = record {
    label = bottom;
    is = λ fuel _ rights room sets. is fuel rights room sets;
    within = omega (arith, s.stops.left_same);
    used_same = s.stops.used_same;
    joined = λ q. cc;
  }
    where
      is : (fuel : ℕ) (rights : Rights) (room : ℕ) (sets : Sets)
          → eval (script_of code) fuel n (standing cells vars rights room run) ≡ given (Err stopped) bottom run₁ sets (standing cells vars rights room run₁)
      is zero rights room sets = rw (s.stops.number_is, s.stops.node_is, s.stops.left_same)
      is (suc fuel) rights room sets = rw (lt-leb (cost code n) run.left s.lacks, guard, s.stops.number_is, s.stops.node_is, s.stops.left_same)

  -- the cost is paid, and fuel is left for the rest
  pub paid : {r : Value} {run' : Run} → Paid run (cost code n) run₁ → Gives (Expresses code n) cells vars run₁ before r run' after
      → Gives (Evaluates code n) cells vars run before r run' after
  unfolding eval next pay guard
  paid {r} {run'} p g = record {
    label = g.label;
    is = is;
    within = omega (arith, g.within, p.left_is);
    used_same = g.used_same ∙ p.used_same;
    joined = g.joined;
  }
    where
      is : (fuel : ℕ) → run.left ≤ fuel → (rights : Rights) (room : ℕ) (sets : Sets)
          → eval (script_of code) fuel n (standing cells vars rights room run) ≡ given r g.label run' sets (standing cells vars rights room run')
      is zero h rights room sets = absurd (omega (arith, p.enough, cost_positive (node_at (script_of code) n).kind))
      is (suc fuel) h rights room sets =
          let some : 1 ≤ cost code n = cost_positive (node_at (script_of code) n).kind in
          rw (le-leb (cost code n) run.left p.enough, guard, sym p.left_is) (after_none _ ∙ g.is fuel (omega (arith, p.left_is, p.enough)) rights room sets)
