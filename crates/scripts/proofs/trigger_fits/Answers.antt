-- `scripts::trigger_fits` meets its contract: the tests in their order, and what is left of them past each.
use mathlib.Core.Path.{◌≡◌, refl, sym, ap, ◌∙◌}
use mathlib.Core.List.{List}
use mathlib.Core.Bool.{Bool, ◌&&◌, not}
use Prim.Native.Nat.{ℕ, ◌+◌, ◌≤◌, ◌<◌}
use native.Mathlib.Omega.{arith}
use lib.Dec.{eqb, leb, ltb}
use lib.ListN.{length}
use borrow.Author.Tests.{lt-ltb, le-ltb, le-leb, lt-leb, eq-eqb, ne_eqb, ltb-true, not-true, not-false}
use Rattle.book.specs.Bytes.{byte, le16}
use Rattle.book.specs.Records.{triggers_format}
use Rattle.book.specs.Layout.{count, decode}
use Rattle.book.specs.Kinds.{command, between}
use Rattle.book.specs.Refusals.{sorted, is_command, reaches, trigger_fits}
use Rattle.book.proofs.Chains.{pass, fail, both}
use Rattle.book.proofs.Decoded.{count_regions, count_nodes}
use Rattle.kinds.proofs.Sites.{few_nodes}
use Rattle.scripts.proofs.trigger_fits.Goals as goal
use Rattle.scripts.proofs.trigger_fits.Tie as tie
use Rattle.scripts.proofs.trigger_fits.Lts as lts
use Rattle.scripts.proofs.trigger_fits.Reads as reads

-- ---- the tests of the record at byte `at`, from a field on

module _ (s : List ℕ) (at : ℕ) where
  abbrev from_reach : Bool
  from_reach = not (reaches (decode s) (length (decode s).nodes) (le16 s (at + 4)))

  abbrev from_zeros : Bool
  from_zeros = eqb (le16 s (at + 6)) 0 && from_reach

  abbrev from_body : Bool
  from_body = is_command (decode s) (le16 s (at + 4)) && from_zeros

  abbrev from_zero : Bool
  from_zero = eqb (byte s (at + 3)) 0 && from_body

  abbrev from_user : Bool
  from_user = leb (byte s (at + 2)) 7 && from_zero

  abbrev from_event : Bool
  from_event = between 1 2 (byte s (at + 1)) && from_user

-- what is left of the tests
abbrev Left : lts.Start tie.the-claims reads.Pre reads.Post tie.handed_clauses → (List ℕ → ℕ → Bool) → Type 0
Left c tests = let s = c.args.file.now in trigger_fits (decode s) (triggers_format.read s c.args.at) ≡ tests s c.args.at

-- ---- the region

pub overflow_cast-file : goal.overflow_cast-file
overflow_cast-file c = omega (arith, c.shared_slice_known-2-1.given c.args.at)

regions : (c : lts.Start tie.the-claims reads.Pre reads.Post tie.handed_clauses) → length (decode c.args.file.now).regions ≡ c.args.regions
regions c = count_regions c.args.file.now ∙ sym c.requires.laid.2

pub returns-then-regions-file : goal.returns-then-regions-file
unfolding trigger_fits triggers_format
returns-then-regions-file c = sym (fail _ (ap (ltb _) (regions c.before.before.before.before) ∙ le-ltb _ _ c.if-regions-file.true))

abbrev start_1 : lts.Else1 tie.the-claims reads.Pre reads.Post tie.handed_clauses → lts.Start tie.the-claims reads.Pre reads.Post tie.handed_clauses
start_1 c = c.before.before.before

past_region : (c : lts.Else1 tie.the-claims reads.Pre reads.Post tie.handed_clauses) → Left (start_1 c) from_event
unfolding trigger_fits triggers_format
past_region c = pass (ap (ltb _) (regions (start_1 c)) ∙ lt-ltb _ _ c.if-regions-file.false) refl

-- ---- the event

pub returns-then-file-at-lt1 : goal.returns-then-file-at-lt1
returns-then-file-at-lt1 c = sym (past_region c.before.before.before ∙ fail _ (fail _ (lt-leb _ _ c.if-file-at-lt1.true)))

pub returns-then-file-at-gt2 : goal.returns-then-file-at-gt2
returns-then-file-at-gt2 c =
    let t = c.before.before.before in
    let s = start_1 t.before.before in
    let h : 2 < byte s.args.file.now (s.args.at + 1) = omega (arith, c.if-file-at-gt2.true) in
    sym (past_region t.before.before ∙ fail _ (pass (le-leb _ _ t.if-file-at-lt1.false) (lt-leb _ _ h)))

abbrev start_3 : lts.Else3 tie.the-claims reads.Pre reads.Post tie.handed_clauses → lts.Start tie.the-claims reads.Pre reads.Post tie.handed_clauses
start_3 c = start_1 c.before.before.before.before

past_event : (c : lts.Else3 tie.the-claims reads.Pre reads.Post tie.handed_clauses) → Left (start_3 c) from_user
past_event c =
    let t = c.before.before in
    let s = start_3 c in
    let h : byte s.args.file.now (s.args.at + 1) ≤ 2 = omega (arith, c.if-file-at-gt2.false) in
    past_region t.before.before ∙ pass (pass (le-leb _ _ t.if-file-at-lt1.false) (le-leb _ _ h)) refl

-- ---- the user and the zero

pub returns-then-file-at-gt7 : goal.returns-then-file-at-gt7
returns-then-file-at-gt7 c = sym (past_event c.before.before.before ∙ fail _ (lt-leb _ _ c.if-file-at-gt7.true))

abbrev start_4 : lts.Else4 tie.the-claims reads.Pre reads.Post tie.handed_clauses → lts.Start tie.the-claims reads.Pre reads.Post tie.handed_clauses
start_4 c = start_3 c.before.before

past_user : (c : lts.Else4 tie.the-claims reads.Pre reads.Post tie.handed_clauses) → Left (start_4 c) from_zero
past_user c = past_event c.before.before ∙ pass (le-leb _ _ c.if-file-at-gt7.false) refl

pub returns-then-file-at-ne0 : goal.returns-then-file-at-ne0
returns-then-file-at-ne0 c = sym (past_user c.before.before.before ∙ fail _ (ne_eqb _ _ c.if-file-at-ne0.true))

abbrev start_5 : lts.Else5 tie.the-claims reads.Pre reads.Post tie.handed_clauses → lts.Start tie.the-claims reads.Pre reads.Post tie.handed_clauses
start_5 c = start_4 c.before.before

past_zero : (c : lts.Else5 tie.the-claims reads.Pre reads.Post tie.handed_clauses) → Left (start_5 c) from_body
past_zero c = past_user c.before.before ∙ pass (eq-eqb _ _ c.if-file-at-ne0.false) refl

-- ---- the body

pub is_command-requires : goal.is_command-requires
is_command-requires c =
    let x = start_5 c.before.before in
    (x.requires.laid.0, x.requires.laid.1)

-- the call's answer is about the body
said : (c : lts.After-is_command tie.the-claims reads.Pre reads.Post tie.handed_clauses) → let x = start_5 c.before.before in is_command (decode x.args.file.now) (le16 x.args.file.now (x.args.at + 4)) ≡ c.is_command.result
said c = sym (c.is_command.ensures ∙ ap (is_command _) c.before.u16_at-body.ensures.0)

pub returns-then-not-is_command : goal.returns-then-not-is_command
returns-then-not-is_command c = sym (past_zero c.before.before.before.before ∙ fail _ (said c.before.before ∙ not-true _ c.if-not-is_command.true-raw))

abbrev start_6 : lts.Else6 tie.the-claims reads.Pre reads.Post tie.handed_clauses → lts.Start tie.the-claims reads.Pre reads.Post tie.handed_clauses
start_6 c = start_5 c.before.before.before

past_body : (c : lts.Else6 tie.the-claims reads.Pre reads.Post tie.handed_clauses) → Left (start_6 c) from_zeros
past_body c = past_zero c.before.before.before ∙ pass (said c.before ∙ not-false _ c.if-not-is_command.false-raw) refl

-- ---- the two zeros

pub returns-then-u16_at-ne0 : goal.returns-then-u16_at-ne0
returns-then-u16_at-ne0 c = sym (past_body c.before.before.before ∙ fail _ (ap (λ (n : ℕ). eqb n 0) (sym c.before.u16_at.ensures.0) ∙ ne_eqb _ _ c.if-u16_at-ne0.true))

past_zeros : (c : lts.Else7 tie.the-claims reads.Pre reads.Post tie.handed_clauses) → Left (start_6 c.before.before) from_reach
past_zeros c = past_body c.before.before ∙ pass (ap (λ (n : ℕ). eqb n 0) (sym c.before.u16_at.ensures.0) ∙ eq-eqb _ _ c.if-u16_at-ne0.false) refl

-- ---- what the body reaches

-- the body is a node
there : (c : lts.Else6 tie.the-claims reads.Pre reads.Post tie.handed_clauses) → c.before.before.u16_at-body.result < count (start_6 c).args.file.now 3
unfolding is_command
there c =
    let s = (start_6 c).args.file.now in
    let body = c.before.before.u16_at-body.result in
    let e = (both (ltb body (length (decode s).nodes)) (sorted (decode s) command body) (sym c.before.is_command.ensures ∙ not-false _ c.if-not-is_command.false-raw)).0 in
    rw (count_nodes s) at (ltb-true body (length (decode s).nodes) e)

pub bounds-flags-body : goal.bounds-flags-body
bounds-flags-body c =
    let t = c.before.before.before.before in
    omega (arith, there t, few_nodes (start_6 t).args.file.now (start_6 t).requires.laid.0)

pub returns : goal.returns
returns c =
    let t = c.before.before.before.before.before in
    let s = (start_6 t).args.file.now in
    let flag = (start_6 t).requires.by_index _ (there t) in
    let e = ap (reaches (decode s) (count s 3)) t.before.before.u16_at-body.ensures.0 in
    sym (past_zeros c.before.before.before ∙ ap not (ap (λ (n : ℕ). reaches (decode s) n (le16 s ((start_6 t).args.at + 4))) (count_nodes s) ∙ sym (flag ∙ e)))
