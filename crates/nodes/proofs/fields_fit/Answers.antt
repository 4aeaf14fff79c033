-- `nodes::fields_fit` meets its contract: the tests in their order, and those of fields that are not named together.
use mathlib.Core.Path.{◌≡◌, refl, sym, ap, ap₂, ◌∙◌}
use mathlib.Core.List.{List}
use mathlib.Core.Bool.{Bool, ◌&&◌, and_assoc}
use Prim.Native.Nat.{ℕ, ◌+◌}
use native.Mathlib.Omega.{arith}
use lib.Dec.{eqb}
use borrow.Author.Tests.{not-true, not-false}
use Rattle.book.specs.Bytes.{le16}
use Rattle.book.specs.Records.{Book, nodes_format}
use Rattle.book.specs.Layout.{decode}
use Rattle.book.specs.Refusals.{field_fits}
use Rattle.book.proofs.Chains.{pass, fail}
use Rattle.nodes.specs.Known.{Known, fields_fit}
use Rattle.nodes.proofs.Rows.{no_role, b_c_unnamed, d_unnamed}
use Rattle.nodes.proofs.fields_fit.Goals as goal
use Rattle.nodes.proofs.fields_fit.Tie as tie
use Rattle.nodes.proofs.fields_fit.Lts as lts
use Rattle.nodes.proofs.fields_fit.Reads as reads

abbrev file : lts.Start tie.the-claims reads.Pre reads.Post tie.handed_clauses → List ℕ
file c = c.args.file.now

abbrev field : lts.Start tie.the-claims reads.Pre reads.Post tie.handed_clauses → ℕ → ℕ → Bool
field c role v = field_fits (decode (file c)) c.args.n role v

-- the tests from a field on
abbrev from_c : lts.Start tie.the-claims reads.Pre reads.Post tie.handed_clauses → Bool
from_c c = field c c.args.row.c (le16 (file c) (c.args.at + 6)) && field c c.args.row.d (le16 (file c) (c.args.at + 8))

abbrev from_b : lts.Start tie.the-claims reads.Pre reads.Post tie.handed_clauses → Bool
from_b c = field c c.args.row.b (le16 (file c) (c.args.at + 4)) && from_c c

abbrev from_a : lts.Start tie.the-claims reads.Pre reads.Post tie.handed_clauses → Bool
from_a c = field c c.args.row.a (le16 (file c) (c.args.at + 2)) && from_b c

-- what is left of them
abbrev Left : lts.Start tie.the-claims reads.Pre reads.Post tie.handed_clauses → Bool → Type 0
Left c tests = fields_fit (decode (file c)) c.args.n c.args.row ≡ tests

whole : (c : lts.Start tie.the-claims reads.Pre reads.Post tie.handed_clauses) → Left c (from_a c)
unfolding fields_fit nodes_format
whole c = rw c.requires.stands.read

-- a call's answer, of the number that was read, is the field's test in this book
said : (c : lts.Start tie.the-claims reads.Pre reads.Post tie.handed_clauses) (role : ℕ) {v w : ℕ} {r : Bool} → v ≡ w
    → ((b : Book) → Known b c.args.regions c.args.sorts.now c.args.n → r ≡ field_fits b c.args.n role v)
    → field c role w ≡ r
said c role e q = sym (q _ c.requires.known ∙ ap (field c role) e)

-- ---- fields that are not named

abbrev zero : lts.Start tie.the-claims reads.Pre reads.Post tie.handed_clauses → ℕ → Bool
zero c place = eqb (le16 (file c) place) 0

unnamed : (c : lts.Start tie.the-claims reads.Pre reads.Post tie.handed_clauses) (role k place : ℕ) → role ≡ 0 → c.args.at + k ≡ place → field c role (le16 (file c) (c.args.at + k)) ≡ zero c place
unnamed c role k place e q = no_role _ _ role _ e ∙ ap (zero c) q

c_d_zero : (c : lts.Start tie.the-claims reads.Pre reads.Post tie.handed_clauses) → c.args.row.c ≡ 0 → from_c c ≡ zero c (c.args.at + 6) && zero c (c.args.at + 6 + 2)
c_d_zero c h =
    let row = c.args.row in
    ap₂ ◌&&◌ (unnamed c row.c 6 _ h refl) (unnamed c row.d 8 (c.args.at + 6 + 2) (d_unnamed row _ c.requires.stands.row_is h) (omega arith))

all_zero : (c : lts.Start tie.the-claims reads.Pre reads.Post tie.handed_clauses) → c.args.row.a ≡ 0
    → Left c ((zero c (c.args.at + 2) && zero c (c.args.at + 2 + 2)) && (zero c (c.args.at + 6) && zero c (c.args.at + 6 + 2)))
all_zero c h =
    let row = c.args.row in
    let at = c.args.at in
    let rest = b_c_unnamed row _ c.requires.stands.row_is h in
    whole c
    ∙ ap₂ ◌&&◌ (unnamed c row.a 2 _ h refl) (ap₂ ◌&&◌ (unnamed c row.b 4 (at + 2 + 2) rest.0 (omega arith)) (c_d_zero c rest.1))
    ∙ sym (and_assoc (zero c (at + 2)) (zero c (at + 2 + 2)) (zero c (at + 6) && zero c (at + 6 + 2)))

pub returns-then-not-both_zero : goal.returns-then-not-both_zero
returns-then-not-both_zero c =
    let x = c.before.before.before.before.before.before in
    sym (all_zero x c.before.before.if-row-eq0.true ∙ fail _ (sym c.before.both_zero.ensures ∙ not-true _ c.if-not-both_zero.true-raw))

pub returns-then-row-eq0 : goal.returns-then-row-eq0
returns-then-row-eq0 c =
    let e = c.before.before in
    let x = c.before.before.before.before.before.before.before in
    c.both_zero-then-row-eq0.ensures ∙ sym (all_zero x e.before.before.if-row-eq0.true ∙ pass (sym e.before.both_zero.ensures ∙ not-false _ e.if-not-both_zero.false-raw) refl)

pub returns-then-not-field_fits : goal.returns-then-not-field_fits
returns-then-not-field_fits c =
    let x = c.before.before.before.before.before.before.before in
    sym (whole x ∙ fail _ (said x _ c.before.before.u16_at.ensures.0 c.before.field_fits.ensures ∙ not-true _ c.if-not-field_fits.true-raw))

abbrev start_3 : lts.Else3 tie.the-claims reads.Pre reads.Post tie.handed_clauses → lts.Start tie.the-claims reads.Pre reads.Post tie.handed_clauses
start_3 c = c.before.before.before.before.before.before

past_a : (c : lts.Else3 tie.the-claims reads.Pre reads.Post tie.handed_clauses) → Left (start_3 c) (from_b (start_3 c))
past_a c = whole (start_3 c) ∙ pass (said (start_3 c) _ c.before.before.u16_at.ensures.0 c.before.field_fits.ensures ∙ not-false _ c.if-not-field_fits.false-raw) refl

pub returns-then-not-field_fits-2 : goal.returns-then-not-field_fits-2
returns-then-not-field_fits-2 c =
    let e = c.before.before.before.before in
    sym (past_a e ∙ fail _ (said (start_3 e) _ c.before.before.u16_at-2.ensures.0 c.before.field_fits-2.ensures ∙ not-true _ c.if-not-field_fits-2.true-raw))

abbrev start_4 : lts.Else4 tie.the-claims reads.Pre reads.Post tie.handed_clauses → lts.Start tie.the-claims reads.Pre reads.Post tie.handed_clauses
start_4 c = start_3 c.before.before.before

past_b : (c : lts.Else4 tie.the-claims reads.Pre reads.Post tie.handed_clauses) → Left (start_4 c) (from_c (start_4 c))
past_b c =
    past_a c.before.before.before
    ∙ pass (said (start_4 c) _ c.before.before.u16_at-2.ensures.0 c.before.field_fits-2.ensures ∙ not-false _ c.if-not-field_fits-2.false-raw) refl

pub returns-then-row-eq0-2 : goal.returns-then-row-eq0-2
returns-then-row-eq0-2 c =
    let e = c.before.before.before.before in
    c.both_zero-then-row-eq0-2.ensures ∙ sym (past_b e ∙ c_d_zero (start_4 e) c.before.if-row-eq0-2.true)

pub returns-then-not-field_fits-3 : goal.returns-then-not-field_fits-3
returns-then-not-field_fits-3 c =
    let e = c.before.before.before.before.before.before in
    sym (past_b e ∙ fail _ (said (start_4 e) _ c.before.before.u16_at-3.ensures.0 c.before.field_fits-3.ensures ∙ not-true _ c.if-not-field_fits-3.true-raw))

pub returns : goal.returns
returns c =
    let f = c.before.before.before in
    let e = f.before.before.before.before.before in
    sym
    (past_b e
    ∙ pass (said (start_4 e) _ f.before.before.u16_at-3.ensures.0 f.before.field_fits-3.ensures ∙ not-false _ f.if-not-field_fits-3.false-raw)
    (said (start_4 e) _ c.before.u16_at-4.ensures.0 c.field_fits-4.ensures))
