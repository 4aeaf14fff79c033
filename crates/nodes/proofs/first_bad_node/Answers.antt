-- `nodes::first_bad_node` meets its contract: no node before the one that is tested is bad, and their sorts are noted.
use mathlib.Core.Path.{◌≡◌, refl, sym, ap, ◌∙◌}
use mathlib.Core.Bool.{true, not}
use Prim.Native.Nat.{ℕ, ◌+◌, ◌*◌, ◌<◌}
use native.Mathlib.Omega.{arith}
use lib.Dec.{lit<}
use borrow.Author.Tests.{eq-eqb}
use Rattle.book.specs.Records.{NodeRecord, Book, nodes_format}
use Rattle.book.specs.Layout.{count, decode}
use Rattle.book.specs.Kinds.{sort_of, row_of}
use Rattle.book.specs.Refusals.{node_at, node_fits, bad_node}
use Rattle.book.specs.declared.Row.{Row}
use Rattle.book.specs.declared.Section.{Section}
use Rattle.book.proofs.First.{none_yet, none_next, first_bad_found, first_bad_none}
use Rattle.book.proofs.Decoded.{count_regions}
use Rattle.book.proofs.Chains.{fail}
use Rattle.kinds.proofs.Notes.{noted_none, noted_next}
use Rattle.kinds.proofs.Past.{past}
use Rattle.kinds.proofs.Sites.{Inside, pair_inside, few_nodes, node_is, node_inside}
use Rattle.nodes.proofs.first_bad_node.Goals as goal
use Rattle.nodes.proofs.first_bad_node.Invariants.{sort_at}
use Rattle.nodes.proofs.first_bad_node.Tie as tie
use Rattle.nodes.proofs.first_bad_node.Lts as lts
use Rattle.nodes.proofs.first_bad_node.Reads as reads

pub section_at-regions-requires : goal.section_at-regions-requires
section_at-regions-requires c = pair_inside _ c.requires 1 (lit< tt)

pub section_at-nodes-requires : goal.section_at-nodes-requires
section_at-nodes-requires c = pair_inside _ c.requires 3 (lit< tt)

pub loop-node-init : goal.loop-node-init
loop-node-init c = (omega arith, none_yet _, noted_none refl)

-- ---- the node that is tested

abbrev start : lts.In-loop tie.the-claims reads.Pre reads.Post goal.the-invariant-loop-node goal.the-decreases-loop-node tie.handed_clauses → lts.Start tie.the-claims reads.Pre reads.Post goal.the-invariant-loop-node goal.the-decreases-loop-node tie.handed_clauses
start c = c.before.before.before.before.before

abbrev number : lts.In-loop tie.the-claims reads.Pre reads.Post goal.the-invariant-loop-node goal.the-decreases-loop-node tie.handed_clauses → ℕ
number c = c.before.loop-node.node

abbrev nodes : lts.In-loop tie.the-claims reads.Pre reads.Post goal.the-invariant-loop-node goal.the-decreases-loop-node tie.handed_clauses → Section
nodes c = c.section_at-nodes.result

-- it is there
there : (c : lts.In-loop tie.the-claims reads.Pre reads.Post goal.the-invariant-loop-node goal.the-decreases-loop-node tie.handed_clauses) → number c < count c.args.file.now 3
there c =
    let e = ap (λ (x : Section). x.count) c.section_at-nodes.ensures in
    rw e at c.loop-node-test.true

placed : (c : lts.In-loop tie.the-claims reads.Pre reads.Post goal.the-invariant-loop-node goal.the-decreases-loop-node tie.handed_clauses) → number c < 1024
placed c = omega (arith, there c, few_nodes c.args.file.now c.requires)

-- its record lies in the file
inside : (c : lts.In-loop tie.the-claims reads.Pre reads.Post goal.the-invariant-loop-node goal.the-decreases-loop-node tie.handed_clauses) → Inside c.args.file.now ((nodes c).start + 16 * number c) 16
inside c = node_inside c.args.file.now (nodes c) (number c) c.requires c.section_at-nodes.ensures (there c)

record_is : (c : lts.In-loop tie.the-claims reads.Pre reads.Post goal.the-invariant-loop-node goal.the-decreases-loop-node tie.handed_clauses) → node_at (decode c.args.file.now) (number c) ≡ nodes_format.read c.args.file.now ((nodes c).start + 16 * number c)
record_is c = node_is c.args.file.now (nodes c) (number c) c.section_at-nodes.ensures (there c)

pub overflow_mul-at : goal.overflow_mul-at
overflow_mul-at c = omega (arith, inside c.before)

pub overflow_add-at : goal.overflow_add-at
overflow_add-at c = omega (arith, inside c.before.before)

pub bounds-file-at : goal.bounds-file-at
bounds-file-at c = omega (arith, inside c.before.before.before)

-- a node of a kind past the table is bad
past_bad : (b : Book) (n : ℕ) → 26 < (node_at b n).kind → bad_node b n ≡ true
unfolding node_fits row_of sort_of
past_bad b n h = ap not (fail _ (ap not (eq-eqb _ _ (ap (λ (r : Row). r.sort) (past _ h)))))

pub returns-then-kind-gt26 : goal.returns-then-kind-gt26
unfolding nodes_format
returns-then-kind-gt26 c =
    let t = c.before.before.before.before in
    let kind = ap (λ (x : NodeRecord). x.kind) (record_is t) in
    sym (first_bad_found _ _ _ (there t) t.before.loop-node.invariant.1 (past_bad _ _ (omega (arith, kind, c.if-kind-gt26.true))))

pub node_fits-requires : goal.node_fits-requires
node_fits-requires c =
    let t = c.before.before.before.before.before.before in
    let s = t.args.file.now in
    let regions = ap (λ (x : Section). x.count) t.section_at-regions.ensures ∙ sym (count_regions s) in
    record { stands = record { inside = (inside t).end; short = (inside t).short; room = placed t; read = record_is t; row_is = c.before.row_of-row.ensures }; known = record { regions_are = regions; sorts_are = t.before.loop-node.invariant.2.right } }

pub returns-then-not-node_fits : goal.returns-then-not-node_fits
returns-then-not-node_fits c =
    let t = c.before.before.before.before.before.before.before.before in
    sym (first_bad_found _ _ _ (there t) t.before.loop-node.invariant.1 (ap not (sym c.before.node_fits.ensures) ∙ c.if-not-node_fits.true-raw))

abbrev test : lts.Else2 tie.the-claims reads.Pre reads.Post goal.the-invariant-loop-node goal.the-decreases-loop-node tie.handed_clauses → lts.In-loop tie.the-claims reads.Pre reads.Post goal.the-invariant-loop-node goal.the-decreases-loop-node tie.handed_clauses
test c = c.before.before.before.before.before.before.before

pub bounds-sorts-node : goal.bounds-sorts-node
bounds-sorts-node c = placed (test c.before)

-- the sort that is noted
sort_is : (c : lts.Else2 tie.the-claims reads.Pre reads.Post goal.the-invariant-loop-node goal.the-decreases-loop-node tie.handed_clauses) → c.before.before.before.row_of-row.result.sort ≡ sort_at (decode (start (test c)).args.file.now) (number (test c))
unfolding row_of nodes_format
sort_is c = ap (λ (r : Row). r.sort) c.before.before.before.row_of-row.ensures ∙ ap (λ (x : NodeRecord). sort_of x.kind) (sym (record_is (test c)))

pub loop-node-preserved : goal.loop-node-preserved
loop-node-preserved c =
    let t = test c.before in
    let l = t.before in
    (omega (arith, t.loop-node-test.true), none_next _ _ l.loop-node.invariant.1 (ap not (sym c.before.node_fits.ensures) ∙ c.if-not-node_fits.false-raw), noted_next (placed t) (sort_is c.before) l.loop-node.invariant.2)

pub returns : goal.returns
returns c =
    let l = c.before in
    let e = ap (λ (x : Section). x.count) l.section_at-nodes.ensures in
    let n : l.loop-node.node ≡ count l.args.file.now 3 = omega (arith, e) in
    sym (first_bad_none _ _ (rw n at l.loop-node.invariant.1))
