-- The bounds of a query, one after another in the turns of a loop, and then its cells. Assumes nothing.
use mathlib.Core.Path.{◌≡◌, refl, ◌∙◌}
use mathlib.Core.List.{List}
use mathlib.Core.Bool.{true}
use Prim.Native.Nat.{ℕ, zero, suc, ◌+◌, ◌-◌, ◌≤◌, ◌<◌}
use native.Mathlib.Numerals.{add-one}
use native.Mathlib.Omega.{arith}
use lib.Dec.{leb}
use lib.IntN.{ℤ, pos}
use lib.ListN.{get_or, set, replicate}
use borrow.Author.Tests.{leb-true, ne_eqb}
use Rattle.places.specs.Sets.{union}
use Rattle.places.proofs.Sets.{union_assoc}
use Rattle.book.specs.Records.{NodeRecord}
use Rattle.book.specs.Kinds.{between}
use Rattle.book.proofs.Chains.{both}
use Rattle.monitor.specs.Labelled.{Label, bottom, Lab, lift2, via}
use Rattle.monitor.specs.Run.{Cell, M, next, ◌>>=◌, look}
use Rattle.monitor.specs.Syntax.{exp_of}
use Rattle.monitor.specs.Rules.{from_to, box_of, seen, aggregate, found, expr, eval}
use Rattle.machine.specs.Script.{script_of}
use Rattle.machine.specs.Promises.{Gives, Evaluates, Expresses, Value, stopped}
use Rattle.machine.specs.declared.lent.Run.{Run}
use Rattle.std.specs.Prelude.{Ok, Err}
use Rattle.machine.proofs.Runs.{after_none}
use Rattle.queries.specs.declared.Found.{Found}
use Rattle.queries.specs.Found.{box, box_in, found_in}
use Rattle.expressions.proofs.Steps.{labelled, gives_as, stops_at, goes_on, Answered}
use Rattle.expressions.proofs.Parts.{node_in}

-- the rest of a query after its four bounds
abbrev aggregating : NodeRecord → ℕ → Lab ℤ → Lab ℤ → Lab ℤ → Lab ℤ → M (Lab ℤ)
aggregating x n t u v w = look (seen x.p (box_of t u v w)) >>= λ cells. found n cells.lab (aggregate x.kind cells.val)

-- the node of a query's bound i
unfoldable pub bound_of : NodeRecord → ℕ → ℕ
bound_of x zero = x.a
bound_of x (suc zero) = x.b
bound_of x (suc (suc zero)) = x.c
bound_of x (suc (suc (suc i))) = x.d

-- one label more, before those that came earlier
newest : Label → (ℕ → Label) → ℕ → Label
newest label labels zero = label
newest label labels (suc j) = labels j

-- The rest of a query at bound i, where k bounds are to come, with the values so far and their labels, the newest first.
pub bounding : (ℕ → M (Lab ℤ)) → NodeRecord → ℕ → ℕ → ℕ → List ℤ → (ℕ → Label) → M (Lab ℤ)
bounding ev x n zero i bounds labels =
    aggregating x n (labelled (get_or bounds 0 (pos 0)) (labels 3)) (labelled (get_or bounds 1 (pos 0)) (labels 2))
    (labelled (get_or bounds 2 (pos 0)) (labels 1)) (labelled (get_or bounds 3 (pos 0)) (labels 0))
bounding ev x n (suc k) i bounds labels = ev (bound_of x i) >>= λ u. bounding ev x n k (i + 1) (set bounds i u.val) (newest u.lab labels)

-- no bound yet
abbrev no_bounds : List ℤ
no_bounds = replicate 4 (pos 0)

abbrev no_labels : ℕ → Label
no_labels j = bottom

query_is : (ev : ℕ → M (Lab ℤ)) (n : ℕ) (x : NodeRecord) → between 8 11 x.kind ≡ true → expr ev n (exp_of x) ≡ bounding ev x n 4 0 no_bounds no_labels
unfolding exp_of expr bounding bound_of newest
query_is ev n x e =
    let low : 8 ≤ x.kind = leb-true 8 x.kind (both (leb 8 x.kind) _ e).0 in
    rw (ne_eqb x.kind 2 (omega arith), ne_eqb x.kind 3 (omega arith), ne_eqb x.kind 4 (omega arith), ne_eqb x.kind 5 (omega arith), ne_eqb x.kind 6 (omega arith), e)

-- the cells in the box, with the labels of the bounds and of all of them
aggregating_gives : (cells : ℕ → Lab Cell) (vars : ℕ → Lab ℤ) (x : NodeRecord) (n : ℕ) {run : Run} {before after : Label} (t u v w : Lab ℤ) {query : Found}
    → query ≡ found_in x.kind cells (box t.val u.val v.val w.val) x.p
    → after ≡ union before (union (union (union t.lab u.lab) (union v.lab w.lab)) query.label)
    → {r : Value} {run' : Run} → Answered n query.amount run r run'
    → Gives (λ fuel. aggregating x n t u v w) cells vars run before r run' after
unfolding next seen via box_of from_to lift2 found_in
aggregating_gives cells vars x n {before = before} {after = after} t u v w {query} e j h =
    let g = (rw e at h).gives cells vars _ before after (rw e at j) in
    record {
      label = g.label;
      is = λ fuel l rights room sets. after_none _ ∙ g.is fuel l rights room sets;
      within = g.within;
      used_same = g.used_same;
      joined = g.joined;
    }

-- a label to which the i newest are joined, the oldest of them first
pub joining : Label → ℕ → (ℕ → Label) → Label
joining before zero labels = before
joining before (suc i) labels = union (joining before i (λ j. labels (suc j))) (labels 0)

-- the rest of the query at node n of a script
abbrev remaining : List ℕ → ℕ → ℕ → ℕ → List ℤ → (ℕ → Label) → ℕ → M (Lab ℤ)
remaining code n k i bounds labels fuel = bounding (eval (script_of code) fuel) (node_in code n) n k i bounds labels

-- The invariant of the loop: i bounds are in the array, their labels are joined to the lent one, and whatever the rest gives from here,
-- the query gives.
pub record Bounding (code : List ℕ) (n : ℕ) (cells : ℕ → Lab Cell) (vars : ℕ → Lab ℤ) (run : Run) (before : Label) (i : ℕ) (bounds : List ℤ) (run' : Run)
    (after : Label) : Type 0 where
  pub within : i ≤ 4
  pub labels : ℕ → Label
  pub ends : {r : Value} {run'' : Run} {last : Label} → Gives (remaining code n (4 - i) i bounds labels) cells vars run' before r run'' last
      → Gives (Expresses code n) cells vars run before r run'' last
  pub joined : after ≡ joining before i labels

module _ (code : List ℕ) (n : ℕ) {cells : ℕ → Lab Cell} {vars : ℕ → Lab ℤ} {run : Run} {before : Label} where
  pub bounding_starts : between 8 11 (node_in code n).kind ≡ true → Bounding code n cells vars run before 0 no_bounds run before
  unfolding joining
  bounding_starts e = record {
    within = omega arith;
    labels = no_labels;
    ends = gives_as (λ fuel. query_is (eval (script_of code) fuel) n (node_in code n) e);
    joined = refl;
  }

  module _ {i : ℕ} {bounds : List ℤ} {run₁ : Run} {after : Label} (b : Bounding code n cells vars run before i bounds run₁ after) where
    -- bound i
    module _ (h : i < 4) {v : Value} {run₂ : Run} {after' : Label} (g : Gives (Evaluates code (bound_of (node_in code n) i)) cells vars run₁ after v run₂ after') where
      -- what comes after it
      abbrev rest : ℕ → Lab ℤ → M (Lab ℤ)
      rest fuel u = remaining code n (3 - i) (i + 1) (set bounds i u.val) (newest u.lab b.labels) fuel

      from_here : {r : Value} {run' : Run} {last : Label} → Gives (λ fuel. Evaluates code (bound_of (node_in code n) i) fuel >>= rest fuel) cells vars run₁ before r run' last
          → Gives (Expresses code n) cells vars run before r run' last
      unfolding bounding
      from_here w =
          let e : 4 - i ≡ suc (3 - i) = omega arith in
          b.ends (rw e w)

      pub bounding_stops : {last : Label} → v ≡ Err stopped → Gives (Expresses code n) cells vars run before (Err stopped) run₂ last
      bounding_stops q = from_here (stops_at g rest q)

      pub bounding_turns : {z : ℤ} → v ≡ Ok z → Bounding code n cells vars run before (i + 1) (set bounds i z) run₂ after'
      unfolding joining newest
      bounding_turns {z} q = record {
        within = omega arith;
        labels = newest g.label b.labels;
        ends = λ w.
            let e : 4 - (i + 1) ≡ 3 - i = omega arith in
            from_here (goes_on g rest z q (rw e at w));
        joined = g.joined q ∙ rw (add-one, b.joined);
      }

    -- all four, and the cells in their box
    pub bounding_ends : 4 ≤ i → {query : Found}
        → query ≡ found_in (node_in code n).kind cells (box_in bounds) (node_in code n).p
        → {r : Value} {run' : Run} → Answered n query.amount run₁ r run' → Gives (Expresses code n) cells vars run before r run' (union after query.label)
    unfolding bounding joining
    bounding_ends h is w =
        let all : i ≡ 4 = omega (arith, b.within) in
        b.ends (rw all (aggregating_gives cells vars (node_in code n) n _ _ _ _ is (rw (b.joined, all) (simp union_assoc)) w))
