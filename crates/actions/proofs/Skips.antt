-- The kinds that `act` tells apart, and skip. Assumes nothing.
use mathlib.Core.Path.{◌≡◌, refl, sym, ◌∙◌}
use mathlib.Core.Bool.{true, false, false≢true}
use mathlib.Core.List.{List}
use Prim.Native.Nat.{ℕ, ◌≤◌}
use native.Mathlib.Omega.{arith}
use borrow.Author.Tests.{le-leb, ne_eqb}
use lib.Dec.{eqb}
use lib.IntN.{ℤ}
use lib.ListN.{length}
use Rattle.std.specs.Prelude.{Ok}
use Rattle.book.specs.Records.{NodeRecord}
use Rattle.book.specs.Kinds.{between}
use Rattle.book.specs.Refusals.{node_at}
use Rattle.monitor.specs.Labelled.{Label, Lab}
use Rattle.monitor.specs.Syntax.{skip, cmd_of}
use Rattle.monitor.specs.Rules.{command}
use Rattle.machine.specs.Script.{script_of}
use Rattle.machine.specs.Store.{Store}
use Rattle.machine.specs.Promises.{Does, Commands}
use Rattle.machine.specs.declared.Who.{Who}
use Rattle.machine.proofs.Nodes.{command_is}
use Rattle.machine.proofs.Runs.{does_as, sets_vars}

pub change_kind : (k : ℕ) → 24 ≤ k → k ≤ 25 → between 24 25 k ≡ true
change_kind k l h = rw (le-leb 24 k l, le-leb k 25 h)

-- a kind that is not 17 to 26 is skip
pub skip_kind : {k : ℕ} → between 18 22 k ≡ false → (k ≡ 17 → ⊥) → (k ≡ 23 → ⊥) → (k ≡ 24 → ⊥) → (k ≡ 25 → ⊥) → (k ≡ 26 → ⊥)
    → (x : NodeRecord) → k ≡ x.kind → cmd_of x ≡ skip
unfolding cmd_of
skip_kind {k} apart n17 n23 n24 n25 n26 x e = simp (
  ← e,
  ne_eqb k 17 n17,
  none 18 (omega arith) (omega arith),
  none 19 (omega arith) (omega arith),
  none 20 (omega arith) (omega arith),
  none 21 (omega arith) (omega arith),
  none 22 (omega arith) (omega arith),
  ne_eqb k 23 n23,
  ne_eqb k 24 n24,
  ne_eqb k 25 n25,
  ne_eqb k 26 n26,
)
  where
    none : (j : ℕ) → 18 ≤ j → j ≤ 22 → eqb k j ≡ false
    none j l h = ne_eqb k j (λ q. false≢true (sym apart ∙ rw (le-leb 18 k (omega (arith, q)), le-leb k 22 (omega (arith, q)))))

-- 16: skip
pub skips : (code : List ℕ) (ctx : Label) (who : Who) (n : ℕ) {vars : ℕ → Lab ℤ} {x : Store} → cmd_of (node_at (script_of code) n) ≡ skip
    → x.run.used ≤ length x.trace → Does (Commands code ctx who n) vars x (Ok tt) vars x
unfolding command
skips code ctx who n e u = does_as (command_is code ctx who n e) (sets_vars u (λ fuel _. refl))
