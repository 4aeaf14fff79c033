-- `kinds::sort_at` meets its contract: the kind is the record's first byte.
use mathlib.Core.Path.{sym, ap, ◌∙◌}
use Prim.Native.Nat.{◌+◌, ◌*◌}
use native.Mathlib.Omega.{arith}
use Rattle.book.specs.Records.{NodeRecord, nodes_format}
use Rattle.book.specs.Kinds.{sort_of, row_of}
use Rattle.book.specs.declared.Row.{Row}
use Rattle.kinds.proofs.Sites.{Inside, node_is, node_inside}
use Rattle.kinds.proofs.sort_at.Goals as goal
use Rattle.kinds.proofs.sort_at.Tie as tie
use Rattle.kinds.proofs.sort_at.Lts as lts
use Rattle.kinds.proofs.sort_at.Reads as reads

-- the record lies in the file
inside : (c : lts.Start tie.the-claims reads.Pre reads.Post) → Inside c.args.file.now (c.args.nodes.start + 16 * c.args.i) 16
inside c = node_inside c.args.file.now c.args.nodes c.args.i c.requires.0 c.requires.1 c.requires.2

pub overflow_mul-i : goal.overflow_mul-i
overflow_mul-i c = omega (arith, inside c.before.before)

pub overflow_add-start : goal.overflow_add-start
overflow_add-start c = omega (arith, inside c.before.before)

pub bounds-file-start : goal.bounds-file-start
bounds-file-start c = omega (arith, inside c.before.before.before)

pub returns : goal.returns
unfolding row_of nodes_format
returns c =
    let s = c.before.before.before.before in
    let e = node_is s.args.file.now s.args.nodes s.args.i s.requires.1 s.requires.2 in
    ap (λ (r : Row). r.sort) c.row_of-row.ensures ∙ ap (λ (n : NodeRecord). sort_of n.kind) (sym e)
