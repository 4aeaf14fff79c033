-- `nodes::node_fits` meets its contract: the tests in their order, and what is left of them past each.
use mathlib.Core.Path.{◌≡◌, refl, sym, ap, ap₂, ◌∙◌}
use mathlib.Core.List.{List}
use mathlib.Core.Bool.{Bool, ◌&&◌, ◌||◌, not, and_assoc}
use Prim.Native.Nat.{ℕ, ◌+◌}
use native.Mathlib.Omega.{arith}
use lib.Dec.{eqb}
use borrow.Author.Tests.{eq-eqb, ne_eqb, not-true, not-false}
use Rattle.book.specs.Bytes.{byte, le16, le32, signed32}
use Rattle.book.specs.Records.{NodeRecord, Book, nodes_format}
use Rattle.book.specs.Layout.{decode}
use Rattle.book.specs.Kinds.{no_kind, constant, row_of}
use Rattle.book.specs.Refusals.{node_at, field_fits, is_zero, node_fits}
use Rattle.book.specs.declared.Row.{Row}
use Rattle.book.proofs.Chains.{pass, fail}
use Rattle.nodes.specs.Known.{fields_fit}
use Rattle.nodes.proofs.node_fits.Goals as goal
use Rattle.nodes.proofs.node_fits.Tie as tie
use Rattle.nodes.proofs.node_fits.Lts as lts
use Rattle.nodes.proofs.node_fits.Reads as reads

-- ---- the tests of node n, by its row and its record

module _ (b : Book) (n : ℕ) where
  abbrev tests : Row → NodeRecord → Bool
  tests r x =
      not (eqb r.sort no_kind)
      && (field_fits b n r.p x.p && (fields_fit b n r && ((eqb r.k constant || is_zero x.k) && eqb x.zeros 0)))

  grouped : (a b c d rest : Bool) → (a && (b && (c && d))) && rest ≡ a && (b && (c && (d && rest)))
  grouped a b c d rest = simp and_assoc

  all : node_fits b n ≡ tests (row_of (node_at b n).kind) (node_at b n)
  unfolding node_fits row_of fields_fit
  all = rw grouped

abbrev file : lts.Start tie.the-claims reads.Pre reads.Post tie.handed_clauses → List ℕ
file c = c.args.file.now

abbrev at : lts.Start tie.the-claims reads.Pre reads.Post tie.handed_clauses → ℕ
at c = c.args.at

-- the tests from the zeros, the constant, the fields a to d, and p on
abbrev from_zeros : lts.Start tie.the-claims reads.Pre reads.Post tie.handed_clauses → Bool
from_zeros c = eqb (le16 (file c) (at c + 14)) 0

abbrev from_k : lts.Start tie.the-claims reads.Pre reads.Post tie.handed_clauses → Bool
from_k c = (eqb c.args.row.k constant || is_zero (signed32 (le32 (file c) (at c + 10)))) && from_zeros c

abbrev from_a : lts.Start tie.the-claims reads.Pre reads.Post tie.handed_clauses → Bool
from_a c = fields_fit (decode (file c)) c.args.n c.args.row && from_k c

abbrev from_p : lts.Start tie.the-claims reads.Pre reads.Post tie.handed_clauses → Bool
from_p c = field_fits (decode (file c)) c.args.n c.args.row.p (byte (file c) (at c + 1)) && from_a c

-- what is left of them
abbrev Left : lts.Start tie.the-claims reads.Pre reads.Post tie.handed_clauses → Bool → Type 0
Left c rest = node_fits (decode (file c)) c.args.n ≡ rest

whole : (c : lts.Start tie.the-claims reads.Pre reads.Post tie.handed_clauses) → Left c (not (eqb c.args.row.sort no_kind) && from_p c)
unfolding nodes_format
whole c =
    let read = c.requires.stands.read in
    all (decode (file c)) c.args.n
    ∙ ap₂ (tests (decode (file c)) c.args.n) (ap (λ (x : NodeRecord). row_of x.kind) read ∙ sym c.requires.stands.row_is) read

-- ---- the kind

pub returns-then-row-eq-NO_KIND : goal.returns-then-row-eq-NO_KIND
returns-then-row-eq-NO_KIND c = sym (whole c.before.before.before.before ∙ fail _ (ap not (eq-eqb _ _ c.if-row-eq-NO_KIND.true)))

abbrev start_1 : lts.Else1 tie.the-claims reads.Pre reads.Post tie.handed_clauses → lts.Start tie.the-claims reads.Pre reads.Post tie.handed_clauses
start_1 c = c.before.before.before

past_kind : (c : lts.Else1 tie.the-claims reads.Pre reads.Post tie.handed_clauses) → Left (start_1 c) (from_p (start_1 c))
past_kind c = whole (start_1 c) ∙ pass (ap not (ne_eqb _ _ c.if-row-eq-NO_KIND.false)) refl

-- ---- p

pub overflow_cast-file : goal.overflow_cast-file
overflow_cast-file c = omega (arith, c.shared_slice_known-2-1.given (at (start_1 c.before.before) + 1))

pub returns-then-not-field_fits : goal.returns-then-not-field_fits
returns-then-not-field_fits c =
    let e = c.before.before.before.before in
    sym (past_kind e ∙ fail _ (sym (c.before.field_fits.ensures _ (start_1 e).requires.known) ∙ not-true _ c.if-not-field_fits.true-raw))

abbrev start_2 : lts.Else2 tie.the-claims reads.Pre reads.Post tie.handed_clauses → lts.Start tie.the-claims reads.Pre reads.Post tie.handed_clauses
start_2 c = start_1 c.before.before.before

past_p : (c : lts.Else2 tie.the-claims reads.Pre reads.Post tie.handed_clauses) → Left (start_2 c) (from_a (start_2 c))
past_p c =
    past_kind c.before.before.before ∙ pass (sym (c.before.field_fits.ensures _ (start_2 c).requires.known) ∙ not-false _ c.if-not-field_fits.false-raw) refl

-- ---- a to d

pub returns-then-not-fields_fit : goal.returns-then-not-fields_fit
returns-then-not-fields_fit c = sym (past_p c.before.before.before ∙ fail _ (sym c.before.fields_fit.ensures ∙ not-true _ c.if-not-fields_fit.true-raw))

abbrev start_3 : lts.Else3 tie.the-claims reads.Pre reads.Post tie.handed_clauses → lts.Start tie.the-claims reads.Pre reads.Post tie.handed_clauses
start_3 c = start_2 c.before.before

past_d : (c : lts.Else3 tie.the-claims reads.Pre reads.Post tie.handed_clauses) → Left (start_3 c) (from_k (start_3 c))
past_d c = past_p c.before.before ∙ pass (sym c.before.fields_fit.ensures ∙ not-false _ c.if-not-fields_fit.false-raw) refl

-- ---- k

pub returns-then-not-constant_fits : goal.returns-then-not-constant_fits
returns-then-not-constant_fits c = sym (past_d c.before.before.before ∙ fail _ (sym c.before.constant_fits.ensures ∙ not-true _ c.if-not-constant_fits.true-raw))

past_k : (c : lts.Else4 tie.the-claims reads.Pre reads.Post tie.handed_clauses) → let x = start_3 c.before.before in Left x (from_zeros x)
past_k c = past_d c.before.before ∙ pass (sym c.before.constant_fits.ensures ∙ not-false _ c.if-not-constant_fits.false-raw) refl

-- ---- the two zeros

pub returns : goal.returns
returns c = sym (past_k c.before.before ∙ ap (λ (n : ℕ). eqb n 0) (sym c.u16_at.ensures.0))
