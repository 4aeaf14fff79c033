-- The cells that are left in lent memory. Assumes nothing.
use mathlib.Core.Path.{◌≡◌, sym, ap, ◌∙◌}
use mathlib.Core.List.{List, ◌++◌}
use Prim.Native.Nat.{ℕ, ◌+◌, ◌*◌, ◌≤◌}
use native.Mathlib.Numerals.{add-one}
use native.Mathlib.Omega.{arith}
use lib.IntN.{ℤ}
use lib.ListN.{length, take, drop, length-append, length-drop}
use lib.Seq.{take_at, length-take-le}
use Rattle.labels.specs.Labels.{set_label}
use Rattle.monitor.specs.Labelled.{Lab}
use Rattle.monitor.specs.Run.{Cell}
use Rattle.monitor.specs.Call.{cells_of, amounts_in, presence_in, labels_in}
use Rattle.monitor.proofs.Memory.{Sizes, amounts_kept, presence_kept}
use Rattle.machine.specs.Store.{cells_held}
use Rattle.machine.specs.declared.lent.Sets.{Sets}

-- the label of one more cell: that the store left the length tells that the label has eight words
pub labels_turn : (cells : ℕ → Lab Cell) (labels out : List ℕ) (n : ℕ) → 8 * n + 8 ≤ length labels → take (8 * n) labels ≡ labels_in cells n
    → out ≡ set_label labels n (cells n).lab → length out ≡ length labels → take (8 * (n + 1)) out ≡ labels_in cells (n + 1)
unfolding labels_in
labels_turn cells labels out n h is e long =
    let label : List ℕ = (cells n).lab in
    let first : length (take (8 * n) labels) ≡ 8 * n = length-take-le (8 * n) labels (omega arith) in
    let both : length (take (8 * n) labels ++ label) ≡ 8 * n + length label = length-append (take (8 * n) labels) label ∙ omega arith in
    let all : length out ≡ 8 * n + length label + (length (drop (8 * n + 8) labels)) =
    ap length e ∙ length-append (take (8 * n) labels ++ label) (drop (8 * n + 8) labels) ∙ omega arith in
    let front : length (take (8 * n) labels ++ label) ≡ 8 * (n + 1) = omega (arith, length-drop (8 * n + 8) labels) in
    ap (take (8 * (n + 1))) e
    ∙ take_at (take (8 * n) labels ++ label) (drop (8 * n + 8) labels) (8 * (n + 1)) front
    ∙ ap (λ (l : List ℕ). l ++ label) is
    ∙ ap (labels_in cells) (sym (add-one n))

-- amounts and presence that were copied
module _ (amounts : List ℤ) (sets : Sets) (labels : List ℕ) (h : Sizes amounts sets.present labels) where
  pub amounts_left : amounts ≡ amounts_in (cells_held amounts sets)
  unfolding amounts_in cells_held cells_of
  amounts_left = sym (amounts_kept amounts sets.present labels h)

  pub presence_left : sets.present ≡ presence_in (cells_held amounts sets)
  unfolding presence_in cells_held cells_of
  presence_left = sym (presence_kept amounts sets.present labels h)
