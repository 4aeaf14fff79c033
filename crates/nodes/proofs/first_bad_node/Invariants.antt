-- `nodes::first_bad_node` meets its contract: no node before the one that is tested is bad, and their sorts are noted.
use Prim.Native.Nat.{ℕ, ◌≤◌}
use Rattle.book.specs.Records.{Book}
use Rattle.book.specs.Layout.{decode}
use Rattle.book.specs.Kinds.{sort_of}
use Rattle.book.specs.Refusals.{node_at, bad_node}
use Rattle.book.proofs.First.{NoneBelow}
use Rattle.kinds.proofs.Notes.{Noted}
use Rattle.nodes.proofs.first_bad_node.Given as goal

-- the sort of node i
abbrev pub sort_at : Book → ℕ → ℕ
sort_at b i = sort_of (node_at b i).kind

abbrev pub invariant-loop-node : goal.invariant-loop-node
invariant-loop-node l =
    (l.node ≤ l.nodes.count) × NoneBelow (bad_node (decode l.file)) l.node × Noted (sort_at (decode l.file)) 0 l.sorts l.node
