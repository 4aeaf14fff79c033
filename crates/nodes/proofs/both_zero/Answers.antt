-- `nodes::both_zero` meets its contract: a number is 0 where its halves are.
use mathlib.Core.Path.{◌≡◌, sym, ap, ◌∙◌}
use mathlib.Core.Bool.{◌&&◌}
use Prim.Native.Nat.{ℕ, ◌+◌, ◌*◌}
use native.Mathlib.Decide.{ℕ_discrete}
use native.Mathlib.Omega.{arith}
use lib.Dec.{eqb}
use borrow.Author.Tests.{eq-eqb, ne_eqb}
use Rattle.book.specs.Bytes.{le16}
use Rattle.book.proofs.Chains.{pass, fail}
use Rattle.nodes.proofs.both_zero.Goals as goal

halves : (low high : ℕ) → eqb (low + 65536 * high) 0 ≡ eqb low 0 && eqb high 0
halves low high = go (ℕ_discrete low 0) (ℕ_discrete high 0)
  where
    go : Dec (low ≡ 0) → Dec (high ≡ 0) → eqb (low + 65536 * high) 0 ≡ eqb low 0 && eqb high 0
    go (yes p) (yes q) = rw (p, q)
    go (yes p) (no q) = ne_eqb (low + 65536 * high) 0 (λ e. q (omega arith)) ∙ sym (pass (eq-eqb low 0 p) (ne_eqb high 0 q))
    go (no p) q = ne_eqb (low + 65536 * high) 0 (λ e. p (omega arith)) ∙ sym (fail _ (ne_eqb low 0 p))

pub returns : goal.returns
returns c =
    let x = c.before.before.args in
    ap (λ (n : ℕ). eqb n 0) c.u32_at.ensures ∙ halves (le16 x.file.now x.at) (le16 x.file.now (x.at + 2))
