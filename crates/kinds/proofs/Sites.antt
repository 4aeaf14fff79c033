-- Where the nodes of a laid-out file stand. Assumes nothing.
use mathlib.Core.Path.{◌≡◌, ap, ◌∙◌}
use mathlib.Core.List.{List}
use Prim.Native.Nat.{ℕ, ◌+◌, ◌*◌, ◌≤◌, ◌<◌}
use native.Mathlib.Nat.{mul_comm}
use native.Mathlib.Omega.{arith}
use lib.ListN.{length}
use Rattle.book.specs.Records.{nodes_format}
use Rattle.book.specs.Layout.{distance, count, section, decode}
use Rattle.book.specs.Refusals.{Laid, node_at}
use Rattle.book.specs.declared.Section.{Section}
use Rattle.book.proofs.Decoded.{node_read}
use Rattle.book.proofs.Accepted.{laid, nodes_inside}

-- a record of this size at this byte lies in the file
pub record Inside (s : List ℕ) (at size : ℕ) : Type 0 where
  pub end : at + size ≤ length s
  pub short : length s ≤ 60000

module _ (s : List ℕ) where
  -- what reading a section's pair needs
  pub pair_inside : Laid s → (i : ℕ) → i < 6 → (i < 6) × (36 ≤ length s) × (distance s i ≤ length s)
  pair_inside l i h = (h, (laid l).long, (laid l).back i h)

  pub few_nodes : Laid s → count s 3 ≤ 1024
  few_nodes l = (laid l).few_nodes

  module _ (at : Section) (i : ℕ) where
    pub node_is : at ≡ section s 3 → i < count s 3 → node_at (decode s) i ≡ nodes_format.read s (at.start + 16 * i)
    node_is e h = rw e (node_read s i _ h ∙ ap (λ (n : ℕ). nodes_format.read s ((section s 3).start + n)) (mul_comm i 16))

    pub node_inside : Laid s → at ≡ section s 3 → i < count s 3 → Inside s (at.start + 16 * i) 16
    node_inside l e h =
        let all = nodes_inside (laid l) in
        rw e (record { end = omega arith; short = (laid l).short })
