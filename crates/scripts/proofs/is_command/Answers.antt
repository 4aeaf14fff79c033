-- `scripts::is_command` meets its contract: the number is tested before the sort is read.
use mathlib.Core.Path.{◌≡◌, sym, ap}
use Prim.Native.Nat.{ℕ, ◌≤◌, ◌<◌}
use lib.Dec.{eqb}
use lib.ListN.{length}
use borrow.Author.Tests.{lt-ltb, le-ltb}
use Rattle.book.specs.Layout.{count, decode}
use Rattle.book.specs.Refusals.{is_command}
use Rattle.book.specs.declared.Section.{Section}
use Rattle.book.proofs.Chains.{pass, fail}
use Rattle.book.proofs.Decoded.{count_nodes}
use Rattle.scripts.proofs.is_command.Goals as goal
use Rattle.scripts.proofs.is_command.Tie as tie
use Rattle.scripts.proofs.is_command.Lts as lts
use Rattle.scripts.proofs.is_command.Reads as reads

-- the count that was passed is the number of nodes
number : (c : lts.Start tie.the-claims reads.Pre reads.Post) → c.args.nodes.count ≡ count c.args.file.now 3
number c = ap (λ (x : Section). x.count) c.requires.1

pub returns-then-nodes-i : goal.returns-then-nodes-i
unfolding is_command
returns-then-nodes-i c =
    let s = c.before.before.before.before in
    let h : length (decode s.args.file.now).nodes ≤ s.args.i = rw (count_nodes s.args.file.now, ← number s) c.if-nodes-i.true in
    sym (fail _ (le-ltb _ _ h))

pub sort_at-requires : goal.sort_at-requires
sort_at-requires c =
    let s = c.before.before.before.before in
    let h : s.args.i < count s.args.file.now 3 = rw (← number s) c.if-nodes-i.false in
    (s.requires.0, s.requires.1, h)

pub returns : goal.returns
unfolding is_command
returns c =
    let s = c.before.before.before.before.before in
    let h : s.args.i < length (decode s.args.file.now).nodes = rw (count_nodes s.args.file.now, ← number s) c.before.if-nodes-i.false in
    sym (pass (lt-ltb _ _ h) (ap (λ (sort : ℕ). eqb sort 2) (sym c.sort_at.ensures)))
