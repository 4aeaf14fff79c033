-- `start::own_labels` meets its contract: the labels of the places passed are set, and those of the others are empty still.
use mathlib.Core.Path.{◌≡◌, sym, ap, ap₂, ◌∙◌}
use mathlib.Core.List.{List, []}
use mathlib.Core.Logic.{⊎_elim}
use Prim.Native.Nat.{ℕ, ◌*◌, ◌/◌, ◌%◌, ◌^◌, ◌<◌}
use native.Mathlib.Nat.{not-suc-le-zero, le_of_suc-le-suc, eq-or-lt_of_le}
use native.Mathlib.Numerals.{add-one}
use native.Mathlib.Omega.{arith}
use lib.Dec.{lit<}
use lib.ListN.{length, set, get_or-replicate, length-replicate}
use lib.Pow.{shl_exact}
use Rattle.places.specs.Sets.{empty, single}
use Rattle.places.proofs.Shapes.{single_word}
use Rattle.machine.specs.Store.{row_at}
use Rattle.machine.proofs.Stores.{row_same, row_other}
use Rattle.start.proofs.own_labels.Goals as goal
use Rattle.start.proofs.own_labels.Goals.{In-loop-place}

pub loop-place-init : goal.loop-place-init
loop-place-init c = rw c.requires (λ q h. absurd (not-suc-le-zero h), λ q l h. get_or-replicate 512 q (empty 8) [] h)

-- there are 512 labels
long : (c : In-loop-place) → length c.loop-place.labels ≡ 512
long c = c.loop-place.auto.labels ∙ ap (λ (l : List (List ℕ)). length l) c.requires ∙ length-replicate 512 (empty 8)

pub loop-place-preserved : goal.loop-place-preserved
loop-place-preserved c =
    let l = c.loop-place in
    let p : ℕ = l.place in
    let lt : p < 512 = c.loop-place-test.true in
    let bit = shl_exact {a = 1} 1 (p % 64) 64 (lit< tt) (omega arith) in
    let word : 1 * 2 ^ (p % 64) % 2 ^ 64 ≡ 2 ^ (p % 64) = bit ∙ omega arith in
    let row : List ℕ = set (row_at l.labels p) (p / 64) (1 * 2 ^ (p % 64) % 2 ^ 64) in
    let own : row ≡ single 8 p = ap₂ (λ (s : List ℕ) (v : ℕ). set s (p / 64) v) (l.invariant.1 p (omega arith) lt) word ∙ sym (single_word 8 p lt) in (
      λ q h. ⊎_elim
          (λ (e : q ≡ p). rw e (row_same l.labels p row (omega (arith, long c)) ∙ own))
          (λ (b : q < p). row_other l.labels p row q (λ e. omega (arith, e)) ∙ l.invariant.0 q b)
          (eq-or-lt_of_le (le_of_suc-le-suc (rw add-one at h))),
      λ q b h. row_other l.labels p row q (λ e. omega (arith, e)) ∙ l.invariant.1 q (omega arith) h,
    )
