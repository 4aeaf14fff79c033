-- `reaching::reaches` meets its contract: a sequence, a choice, and the kinds that have no flagged child.
use mathlib.Core.Path.{◌≡◌, sym, ap, ap₂, ◌∙◌}
use mathlib.Core.List.{List}
use mathlib.Core.Bool.{Bool, false, ◌||◌}
use Prim.Native.Nat.{ℕ, ◌+◌, ◌*◌, ◌<◌}
use native.Mathlib.Omega.{arith}
use lib.ListN.{get_or}
use borrow.Author.Tests.{ne_eqb, lt-leb}
use Rattle.book.specs.Bytes.{byte, le16}
use Rattle.book.specs.Records.{NodeRecord, nodes_format}
use Rattle.book.specs.Layout.{count, decode}
use Rattle.book.specs.Refusals.{node_at, forbidden, reaches}
use Rattle.kinds.proofs.Sites.{Inside, few_nodes, node_is, node_inside}
use Rattle.reaching.proofs.Reaching.{sequence_flag, choice_flag, other_flag}
use Rattle.reaching.proofs.reaches.Goals as goal
use Rattle.reaching.proofs.reaches.Tie as tie
use Rattle.reaching.proofs.reaches.Lts as lts
use Rattle.reaching.proofs.reaches.Reads as reads

abbrev file : lts.Start tie.the-claims reads.Pre reads.Post tie.handed_clauses → List ℕ
file c = c.args.file.now

abbrev at : lts.Start tie.the-claims reads.Pre reads.Post tie.handed_clauses → ℕ
at c = c.args.nodes.start + 16 * c.args.n

abbrev flag : lts.Start tie.the-claims reads.Pre reads.Post tie.handed_clauses → ℕ → Bool
flag c i = get_or c.args.flags.now i false

-- the record lies in the file
inside : (c : lts.Start tie.the-claims reads.Pre reads.Post tie.handed_clauses) → Inside (file c) (at c) 16
inside c = node_inside (file c) c.args.nodes c.args.n c.requires.laid.0 c.requires.laid.1 c.requires.laid.2

record_is : (c : lts.Start tie.the-claims reads.Pre reads.Post tie.handed_clauses) → node_at (decode (file c)) c.args.n ≡ nodes_format.read (file c) (at c)
record_is c = node_is (file c) c.args.nodes c.args.n c.requires.laid.1 c.requires.laid.2

kind_is : (c : lts.Start tie.the-claims reads.Pre reads.Post tie.handed_clauses) → (node_at (decode (file c)) c.args.n).kind ≡ byte (file c) (at c)
unfolding nodes_format
kind_is c = ap (λ (x : NodeRecord). x.kind) (record_is c)

pub overflow_mul-at : goal.overflow_mul-at
overflow_mul-at c = omega (arith, inside c.before.before)

pub overflow_add-at : goal.overflow_add-at
overflow_add-at c = omega (arith, inside c.before.before)

pub bounds-file-at : goal.bounds-file-at
bounds-file-at c = omega (arith, inside c.before.before.before)

-- the flags that are read are those of the children
read : (f : ℕ → Bool) {i j v w : ℕ} {r t : Bool} → r ≡ f i || f j → i ≡ v → j ≡ w → f v || f w ≡ t → r ≡ t
read f e p q h = e ∙ ap₂ (λ (i j : ℕ). f i || f j) p q ∙ h

-- ---- a kind below a sequence

low : (kind : ℕ) → kind < 18 → forbidden kind ≡ false
unfolding forbidden
low kind h = rw (ne_eqb kind 20 (λ e. omega (arith, e)), lt-leb 23 kind (omega arith))

pub returns-then-kind-lt18 : goal.returns-then-kind-lt18
returns-then-kind-lt18 c =
    let x = c.before.before.before.before in
    let other = other_flag (file x) x.requires.file_value (flag x) x.args.n x.requires.laid.2 x.requires.by_index in
    let below : (node_at (decode (file x)) x.args.n).kind < 18 = omega (arith, kind_is x, c.if-kind-lt18.true) in
    sym (low _ below) ∙ other (λ q. omega (arith, q, below)) (λ q. omega (arith, q, below))

-- ---- a sequence

abbrev start_1 : lts.Then2 tie.the-claims reads.Pre reads.Post tie.handed_clauses → lts.Start tie.the-claims reads.Pre reads.Post tie.handed_clauses
start_1 c = c.before.before.before.before

sequence : (c : lts.Then2 tie.the-claims reads.Pre reads.Post tie.handed_clauses) → let x = start_1 c in
    (le16 (file x) (at x + 2) < x.args.n) × (le16 (file x) (at x + 4) < x.args.n)
    × (flag x (le16 (file x) (at x + 2)) || flag x (le16 (file x) (at x + 4)) ≡ reaches (decode (file x)) (count (file x) 3) x.args.n)
unfolding nodes_format
sequence c =
    let x = start_1 c in
    rw (record_is x) at (sequence_flag (file x) x.requires.file_value (flag x) x.args.n x.requires.laid.2 x.requires.by_index (kind_is x ∙ c.if-kind-eq18.true))

pub overflow_add-at-then-kind-eq18 : goal.overflow_add-at-then-kind-eq18
overflow_add-at-then-kind-eq18 c = omega (arith, inside (start_1 c.before))

pub u16_at-requires : goal.u16_at-requires
u16_at-requires c = omega (arith, inside (start_1 c.before))

pub overflow_add-at-then-kind-eq18-2 : goal.overflow_add-at-then-kind-eq18-2
overflow_add-at-then-kind-eq18-2 c = omega (arith, inside (start_1 c.before.before))

pub u16_at-requires-then-kind-eq18 : goal.u16_at-requires-then-kind-eq18
u16_at-requires-then-kind-eq18 c = omega (arith, inside (start_1 c.before.before))

pub flagged-requires : goal.flagged-requires
flagged-requires c =
    let t = c.before.before.before in
    let few = few_nodes _ (start_1 t).requires.laid.0 in
    (omega (arith, (sequence t).0, few), omega (arith, (sequence t).1, few))

pub returns-then-kind-eq18 : goal.returns-then-kind-eq18
returns-then-kind-eq18 c =
    let t = c.before.before.before.before in
    read (flag (start_1 t)) c.flagged.ensures c.before.before.u16_at.ensures.0 c.before.u16_at-then-kind-eq18.ensures.0 (sequence t).2

-- ---- a choice

abbrev start_2 : lts.Then3 tie.the-claims reads.Pre reads.Post tie.handed_clauses → lts.Start tie.the-claims reads.Pre reads.Post tie.handed_clauses
start_2 c = c.before.before.before.before.before

choice : (c : lts.Then3 tie.the-claims reads.Pre reads.Post tie.handed_clauses) → let x = start_2 c in
    (le16 (file x) (at x + 4) < x.args.n) × (le16 (file x) (at x + 6) < x.args.n)
    × (flag x (le16 (file x) (at x + 4)) || flag x (le16 (file x) (at x + 6)) ≡ reaches (decode (file x)) (count (file x) 3) x.args.n)
unfolding nodes_format
choice c =
    let x = start_2 c in
    rw (record_is x) at (choice_flag (file x) x.requires.file_value (flag x) x.args.n x.requires.laid.2 x.requires.by_index (kind_is x ∙ c.if-kind-eq19.true))

pub overflow_add-at-then-kind-eq19 : goal.overflow_add-at-then-kind-eq19
overflow_add-at-then-kind-eq19 c = omega (arith, inside (start_2 c.before))

pub u16_at-requires-then-kind-eq19 : goal.u16_at-requires-then-kind-eq19
u16_at-requires-then-kind-eq19 c = omega (arith, inside (start_2 c.before))

pub overflow_add-at-then-kind-eq19-2 : goal.overflow_add-at-then-kind-eq19-2
overflow_add-at-then-kind-eq19-2 c = omega (arith, inside (start_2 c.before.before))

pub u16_at-requires-then-kind-eq19-2 : goal.u16_at-requires-then-kind-eq19-2
u16_at-requires-then-kind-eq19-2 c = omega (arith, inside (start_2 c.before.before))

pub flagged-requires-then-kind-eq19 : goal.flagged-requires-then-kind-eq19
flagged-requires-then-kind-eq19 c =
    let t = c.before.before.before in
    let few = few_nodes _ (start_2 t).requires.laid.0 in
    (omega (arith, (choice t).0, few), omega (arith, (choice t).1, few))

pub returns-then-kind-eq19 : goal.returns-then-kind-eq19
returns-then-kind-eq19 c =
    let t = c.before.before.before.before in
    read (flag (start_2 t)) c.flagged-then-kind-eq19.ensures c.before.before.u16_at-then-kind-eq19.ensures.0 c.before.u16_at-then-kind-eq19-2.ensures.0 (choice t).2

-- ---- any other kind

pub returns : goal.returns
returns c =
    let e = c.before.before in
    let x = e.before.before.before.before.before in
    let other = other_flag (file x) x.requires.file_value (flag x) x.args.n x.requires.laid.2 x.requires.by_index in
    c.forbidden.ensures ∙ ap forbidden (sym (kind_is x)) ∙ other (λ q. e.before.if-kind-eq18.false (sym (kind_is x) ∙ q)) (λ q. e.if-kind-eq19.false (sym (kind_is x) ∙ q))
