-- `reaching::reaching_flags` meets its contract: the flags of the nodes passed are right.
use mathlib.Core.Path.{refl, ap}
use Prim.Native.Nat.{◌<◌}
use native.Mathlib.Omega.{arith}
use Rattle.book.specs.Layout.{count}
use Rattle.book.specs.declared.Section.{Section}
use Rattle.kinds.proofs.Notes.{noted_none, noted_next}
use Rattle.kinds.proofs.Sites.{few_nodes}
use Rattle.reaching.proofs.reaching_flags.Goals as goal
use Rattle.reaching.proofs.reaching_flags.Tie as tie
use Rattle.reaching.proofs.reaching_flags.Lts as lts
use Rattle.reaching.proofs.reaching_flags.Reads as reads

pub loop-flagged-init : goal.loop-flagged-init
loop-flagged-init c = (omega arith, noted_none refl)

-- the node whose flag is next is there
abbrev start : lts.In-loop tie.the-claims reads.Pre reads.Post goal.the-invariant-loop-flagged goal.the-decreases-loop-flagged tie.handed_clauses → lts.Start tie.the-claims reads.Pre reads.Post goal.the-invariant-loop-flagged goal.the-decreases-loop-flagged tie.handed_clauses
start c = c.before.before.before

there : (c : lts.In-loop tie.the-claims reads.Pre reads.Post goal.the-invariant-loop-flagged goal.the-decreases-loop-flagged tie.handed_clauses) → c.before.loop-flagged.flagged < count (start c).args.file.now 3
there c =
    let e = ap (λ (x : Section). x.count) (start c).requires.laid.1 in
    rw e at c.loop-flagged-test.true

pub reaches-flag-requires : goal.reaches-flag-requires
reaches-flag-requires c =
    let t = c.before.before in
    let x = start t in
    record { laid = (x.requires.laid.0, x.requires.laid.1, there t); file_value = x.requires.file_value; by_index = t.before.loop-flagged.invariant.1.right }

-- and has a place in the table
placed : (c : lts.In-loop tie.the-claims reads.Pre reads.Post goal.the-invariant-loop-flagged goal.the-decreases-loop-flagged tie.handed_clauses) → c.before.loop-flagged.flagged < 1024
placed c = omega (arith, there c, few_nodes (start c).args.file.now (start c).requires.laid.0)

pub bounds-flags-flagged : goal.bounds-flags-flagged
bounds-flags-flagged c = placed c.before.before.before

pub loop-flagged-preserved : goal.loop-flagged-preserved
loop-flagged-preserved c =
    let t = c.before.before.before in
    (omega (arith, t.loop-flagged-test.true), noted_next (placed t) c.reaches-flag.ensures t.before.loop-flagged.invariant.1)

pub returns : goal.returns
returns c =
    let l = c.before in
    let e = ap (λ (x : Section). x.count) l.before.before.requires.laid.1 in
    λ i h. l.loop-flagged.invariant.1.right i (omega (arith, e, h, c.loop-flagged-test.false))
