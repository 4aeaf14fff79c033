-- `trailer::same4` meets its contract: the four bytes are compared in order.
use mathlib.Core.Path.{◌≡◌, sym, refl}
use mathlib.Core.List.{List}
use Prim.Native.Nat.{ℕ, ◌+◌}
use borrow.Author.Tests.{eq-eqb, ne_eqb}
use Rattle.book.specs.Bytes.{byte}
use Rattle.book.specs.Refusals.{marked}
use Rattle.book.proofs.Chains.{pass, fail}
use Rattle.trailer.proofs.same4.Goals as goal

pub returns-then-file-at : goal.returns-then-file-at
unfolding marked
returns-then-file-at c =
    let differs : byte c.before.before.before.args.file.now c.before.before.before.args.at ≡ byte c.before.before.before.args.mark.now 0 → ⊥ = c.if-file-at.true in
    sym (fail _ (ne_eqb _ _ differs))

pub returns-then-file-at-2 : goal.returns-then-file-at-2
unfolding marked
returns-then-file-at-2 c =
    let s : List ℕ = c.before.before.before.before.before.before.args.file.now in
    let at : ℕ = c.before.before.before.before.before.before.args.at in
    let m : List ℕ = c.before.before.before.before.before.before.args.mark.now in
    let same_0 : byte s at ≡ byte m 0 = c.before.before.before.if-file-at.false in
    let differs : byte s (at + 1) ≡ byte m 1 → ⊥ = c.if-file-at-2.true in
    sym (pass (eq-eqb _ _ same_0) (fail _ (ne_eqb _ _ differs)))

pub returns-then-file-at-3 : goal.returns-then-file-at-3
unfolding marked
returns-then-file-at-3 c =
    let s : List ℕ = c.before.before.before.before.before.before.before.before.before.args.file.now in
    let at : ℕ = c.before.before.before.before.before.before.before.before.before.args.at in
    let m : List ℕ = c.before.before.before.before.before.before.before.before.before.args.mark.now in
    let same_0 : byte s at ≡ byte m 0 = c.before.before.before.before.before.before.if-file-at.false in
    let same_1 : byte s (at + 1) ≡ byte m 1 = c.before.before.before.if-file-at-2.false in
    let differs : byte s (at + 2) ≡ byte m 2 → ⊥ = c.if-file-at-3.true in
    sym (pass (eq-eqb _ _ same_0) (pass (eq-eqb _ _ same_1) (fail _ (ne_eqb _ _ differs))))

pub returns : goal.returns
unfolding marked
returns c =
    let s : List ℕ = c.before.before.before.before.before.before.before.before.before.before.before.args.file.now in
    let at : ℕ = c.before.before.before.before.before.before.before.before.before.before.before.args.at in
    let m : List ℕ = c.before.before.before.before.before.before.before.before.before.before.before.args.mark.now in
    let same_0 : byte s at ≡ byte m 0 = c.before.before.before.before.before.before.before.before.if-file-at.false in
    let same_1 : byte s (at + 1) ≡ byte m 1 = c.before.before.before.before.before.if-file-at-2.false in
    let same_2 : byte s (at + 2) ≡ byte m 2 = c.before.before.if-file-at-3.false in
    sym (pass (eq-eqb _ _ same_0) (pass (eq-eqb _ _ same_1) (pass (eq-eqb _ _ same_2) refl)))
