-- `nodes::constant_fits` meets its contract: a signed number is 0 where its bits are.
use mathlib.Core.Path.{◌≡◌, refl, sym, ap, ◌∙◌}
use mathlib.Core.Bool.{Bool, true, false}
use Prim.Native.Nat.{ℕ, ◌^◌}
use native.Mathlib.Omega.{arith}
use lib.Dec.{eqb, ltb}
use borrow.Author.Tests.{eq-eqb, ne_eqb, ltb-false}
use Rattle.book.specs.Bytes.{le32, signed32}
use Rattle.book.specs.Kinds.{constant}
use Rattle.book.specs.Refusals.{is_zero}
use Rattle.book.proofs.Chains.{or_pass, or_hold}
use Rattle.nodes.proofs.constant_fits.Goals as goal

zero_bits : (n : ℕ) → is_zero (signed32 n) ≡ eqb n 0
unfolding is_zero
zero_bits n = go (ltb n (2 ^ 31)) refl
  where
    go : (b : Bool) → ltb n (2 ^ 31) ≡ b → is_zero (signed32 n) ≡ eqb n 0
    go true e = rw e
    go false e = rw e (sym (ne_eqb n 0 (λ z. omega (arith, ltb-false n (2 ^ 31) e))))

pub returns-then-role-eq-CONSTANT : goal.returns-then-role-eq-CONSTANT
returns-then-role-eq-CONSTANT c =
    let h : c.before.before.args.role ≡ constant = omega (arith, c.if-role-eq-CONSTANT.true) in
    sym (or_hold _ (eq-eqb _ _ h))

pub returns : goal.returns
returns c =
    let s = c.before.before.before.before in
    let h : s.args.role ≡ constant → ⊥ = omega (arith, c.before.if-role-eq-CONSTANT.false) in
    sym (or_pass (ne_eqb _ _ h) (zero_bits (le32 s.args.file.now s.args.at) ∙ ap (λ (n : ℕ). eqb n 0) (sym c.u32_at.ensures)))
