-- `nodes::field_fits` meets its contract: each role has its own test.
use mathlib.Core.Path.{◌≡◌, refl, sym, ap, ◌∙◌}
use mathlib.Core.Bool.{Bool, true, false, ◌&&◌}
use mathlib.Core.List.{List}
use Prim.Native.Nat.{ℕ, ◌≤◌, ◌<◌}
use native.Mathlib.Omega.{arith}
use lib.Dec.{eqb, ltb}
use lib.ListN.{length, get_or}
use borrow.Author.Tests.{ne_eqb, le-leb, lt-leb, ltb-true}
use Rattle.book.specs.Records.{Book}
use Rattle.book.specs.Kinds.{between}
use Rattle.book.specs.Refusals.{sorted, field_fits}
use Rattle.book.proofs.Chains.{pass, fail}
use Rattle.nodes.specs.Known.{Known}
use Rattle.nodes.proofs.Rows.{no_role}
use Rattle.nodes.proofs.field_fits.Goals as goal

-- the test of each role
module _ (b : Book) (n role v : ℕ) where
  child_role : 1 ≤ role → role ≤ 2 → field_fits b n role v ≡ ltb v n && sorted b role v
  unfolding field_fits
  child_role h l = rw (le-leb 1 role h, le-leb role 2 l)

  variable_role : role ≡ 3 → field_fits b n role v ≡ ltb v 16
  unfolding field_fits
  variable_role e = rw e

  small_role : 3 < role → role < 6 → field_fits b n role v ≡ ltb v 8
  unfolding field_fits
  small_role h l = rw (le-leb 1 role (omega arith), lt-leb role 2 (omega arith), ne_eqb role 3 (λ e. omega arith), le-leb 4 role h, le-leb role 5 (omega arith))

  region_role : role ≡ 6 → field_fits b n role v ≡ ltb v (length b.regions)
  unfolding field_fits
  region_role e = rw e

  right_role : role ≡ 7 → field_fits b n role v ≡ between 1 2 v
  unfolding field_fits
  right_role e = rw e

  past_roles : 7 < role → field_fits b n role v ≡ eqb v 0
  unfolding field_fits
  past_roles h =
      rw
      (lt-leb role 2 (omega arith), le-leb 1 role (omega arith), ne_eqb role 3 (λ e. omega arith), lt-leb role 5 (omega arith), le-leb 4 role (omega arith), ne_eqb role 6 (λ e. omega arith), ne_eqb role 7 (λ e. omega arith))

  -- a child's sort is looked at where its number is low enough, and there it is known
  child_known : {regions : ℕ} {sorts : List ℕ} → Known b regions sorts n → ltb v n && eqb (get_or sorts v 0) role ≡ ltb v n && sorted b role v
  child_known {regions} {sorts} k = go (ltb v n) refl
    where
      go : (t : Bool) → ltb v n ≡ t → t && eqb (get_or sorts v 0) role ≡ t && sorted b role v
      go true e = ap (λ (sort : ℕ). eqb sort role) (k.sorts_are v (ltb-true v n e))
      go false e = refl

pub returns-then-role-lt-EXPRESSION : goal.returns-then-role-lt-EXPRESSION
returns-then-role-lt-EXPRESSION c =
    let h : c.before.args.role ≡ 0 = omega arith in
    λ b k. sym (no_role _ _ _ _ h)

pub returns-then-role-le-COMMAND : goal.returns-then-role-le-COMMAND
returns-then-role-le-COMMAND c = λ b k. c.child_fits.ensures ∙ child_known b _ _ _ k ∙ sym (child_role _ _ _ _ c.before.before.if-role-lt-EXPRESSION.false c.before.if-role-le-COMMAND.true)

pub returns-then-role-eq-VARIABLE : goal.returns-then-role-eq-VARIABLE
returns-then-role-eq-VARIABLE c = λ b k. sym (variable_role _ _ _ _ c.if-role-eq-VARIABLE.true)

pub returns-then-role-le-USER : goal.returns-then-role-le-USER
returns-then-role-le-USER c =
    let role = c.before.before.before.before.args.role in
    let above : 3 < role = omega arith in
    let below : role < 6 = omega arith in
    λ b k. sym (small_role _ _ _ _ above below)

pub returns-then-role-eq-REGION : goal.returns-then-role-eq-REGION
returns-then-role-eq-REGION c = λ b k. ap (ltb c.before.before.before.before.before.args.v) k.regions_are ∙ sym (region_role _ _ _ _ c.if-role-eq-REGION.true)

pub returns-then-v-ge1 : goal.returns-then-v-ge1
returns-then-v-ge1 c = λ b k. sym (right_role _ _ _ _ c.before.if-role-eq-RIGHT.true ∙ pass (le-leb 1 _ c.if-v-ge1.true) refl)

pub returns-else-v-ge1 : goal.returns-else-v-ge1
returns-else-v-ge1 c =
    let e = lt-leb 1 c.before.before.before.before.before.before.before.args.v c.if-v-ge1.false in
    λ b k. e ∙ sym (right_role _ _ _ _ c.before.if-role-eq-RIGHT.true ∙ fail _ e)

pub returns : goal.returns
returns c =
    let above : 7 < c.before.before.before.before.before.before.args.role = omega arith in
    λ b k. sym (past_roles _ _ _ _ above)
