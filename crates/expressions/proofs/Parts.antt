-- What a constant, a variable and a pair give, once their own cost is paid, from what their parts give. Assumes nothing.
use mathlib.Core.Path.{◌≡◌, refl, sym, ◌∙◌}
use mathlib.Core.List.{List}
use mathlib.Core.Bool.{true}
use Prim.Native.Nat.{ℕ, ◌≤◌}
use native.Mathlib.Nat.{le_refl}
use native.Mathlib.Decide.{ℕ_discrete}
use native.Mathlib.Omega.{arith}
use lib.Dec.{leb}
use lib.IntN.{ℤ}
use lib.ListN.{length}
use borrow.Author.Tests.{leb-true}
use Rattle.places.specs.Sets.{union}
use Rattle.places.proofs.Sets.{union_assoc, union_empty}
use Rattle.book.specs.Records.{NodeRecord}
use Rattle.book.specs.Kinds.{between}
use Rattle.book.specs.Refusals.{node_at}
use Rattle.book.proofs.Chains.{both}
use Rattle.monitor.specs.Labelled.{Label, bottom, Lab, lit, lift2}
use Rattle.monitor.specs.Run.{Cell, M, ◌>>=◌}
use Rattle.monitor.specs.Syntax.{exp_of}
use Rattle.monitor.specs.Rules.{ranged, expr, eval}
use Rattle.machine.specs.Script.{script_of}
use Rattle.machine.specs.Promises.{given, Gives, Evaluates, Expresses, Value, stopped}
use Rattle.machine.specs.declared.lent.Run.{Run}
use Rattle.std.specs.Prelude.{Ok, Err}
use Rattle.expressions.specs.Values.{combine}
use Rattle.expressions.proofs.Steps.{labelled, gives_as, stops_at, goes_on, Held}

-- the rest of a pair after its parts, and after its first part
abbrev combining : NodeRecord → ℕ → Lab ℤ → Lab ℤ → M (Lab ℤ)
combining x n u v = ranged n (lift2 (combine x.kind) u v)

abbrev second_part : (ℕ → M (Lab ℤ)) → NodeRecord → ℕ → Lab ℤ → M (Lab ℤ)
second_part ev x n u = ev x.b >>= combining x n u

-- 3 to 6 differ only in what combines the two values
pair_is : (ev : ℕ → M (Lab ℤ)) (n : ℕ) (x : NodeRecord) → between 3 6 x.kind ≡ true → expr ev n (exp_of x) ≡ (ev x.a >>= second_part ev x n)
unfolding exp_of expr combine lift2
pair_is ev n x e = go (ℕ_discrete x.kind 3) (ℕ_discrete x.kind 4) (ℕ_discrete x.kind 5)
  where
    go : Dec (x.kind ≡ 3) → Dec (x.kind ≡ 4) → Dec (x.kind ≡ 5) → expr ev n (exp_of x) ≡ (ev x.a >>= second_part ev x n)
    go (yes q) s t = rw q
    go (no p) (yes q) t = rw q
    go (no p) (no s) (yes q) = rw q
    go (no p) (no s) (no t) =
        let low : 3 ≤ x.kind = leb-true 3 x.kind (both (leb 3 x.kind) _ e).0 in
        let high : x.kind ≤ 6 = leb-true x.kind 6 (both (leb 3 x.kind) _ e).1 in
        let q : x.kind ≡ 6 = omega arith in
        rw q

abbrev pub node_in : List ℕ → ℕ → NodeRecord
node_in code n = node_at (script_of code) n

module _ (code : List ℕ) (n : ℕ) {cells : ℕ → Lab Cell} {vars : ℕ → Lab ℤ} {run : Run} {lent : Label} where
  -- 1 constant k
  pub constant_gives : (node_in code n).kind ≡ 1 → length lent ≡ 8 → Gives (Expresses code n) cells vars run lent (Ok (node_in code n).k) run lent
  unfolding exp_of expr lit given
  constant_gives e l = record {
    label = bottom;
    is = λ fuel h rights room sets. rw e;
    within = le_refl run.left;
    used_same = refl;
    joined = λ _. sym (union_empty lent l);
  }

  -- 2 variable p
  pub variable_gives : (node_in code n).kind ≡ 2
      → Gives (Expresses code n) cells vars run lent (Ok (vars (node_in code n).p).val) run (union lent (vars (node_in code n).p).lab)
  unfolding exp_of expr given
  variable_gives e = record {
    label = (vars (node_in code n).p).lab;
    is = λ fuel h rights room sets. rw e;
    within = le_refl run.left;
    used_same = refl;
    joined = λ _. refl;
  }

  -- 3 to 6: the first part, and then the second with what it leaves
  module _ (e : between 3 6 (node_in code n).kind ≡ true) {first : Value} {run₁ : Run} {l₁ : Label} (f : Gives (Evaluates code (node_in code n).a) cells vars run lent first run₁ l₁) where
    as_pair : (fuel : ℕ) → Expresses code n fuel ≡ (Evaluates code (node_in code n).a fuel >>= second_part (eval (script_of code) fuel) (node_in code n) n)
    as_pair fuel = pair_is (eval (script_of code) fuel) n (node_in code n) e

    pub first_stops : {last : Label} → first ≡ Err stopped → Gives (Expresses code n) cells vars run lent (Err stopped) run₁ last
    first_stops q = gives_as as_pair (stops_at f (λ fuel. second_part (eval (script_of code) fuel) (node_in code n) n) q)

    module _ {y : ℤ} (qy : first ≡ Ok y) {second : Value} {run₂ : Run} {l₂ : Label} (g : Gives (Evaluates code (node_in code n).b) cells vars run₁ l₁ second run₂ l₂) where
      after_first : {r : Value} {run' : Run} {last : Label} → Gives (λ fuel. second_part (eval (script_of code) fuel) (node_in code n) n (labelled y f.label)) cells vars run₁ lent r run' last
          → Gives (Expresses code n) cells vars run lent r run' last
      after_first rest = gives_as as_pair (goes_on f (λ fuel. second_part (eval (script_of code) fuel) (node_in code n) n) y qy rest)

      pub second_stops : {last : Label} → second ≡ Err stopped → Gives (Expresses code n) cells vars run lent (Err stopped) run₂ last
      second_stops q = after_first (stops_at g (λ fuel. combining (node_in code n) n (labelled y f.label)) q)

      pub combines : {z : ℤ} → second ≡ Ok z → {r : Value} {run₃ : Run} → Held n (combine (node_in code n).kind y z) run₂ r run₃
          → Gives (Expresses code n) cells vars run lent r run₃ l₂
      unfolding lift2
      combines {z} q h =
          after_first (goes_on g (λ fuel. combining (node_in code n) n (labelled y f.label)) z q
          (h.gives cells vars (union f.label g.label) lent l₂ (g.joined q ∙ rw (f.joined qy) (union_assoc lent f.label g.label))))
