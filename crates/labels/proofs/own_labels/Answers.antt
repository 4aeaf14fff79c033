-- `labels::own_labels` meets its contract: at cell n the labels of the first n cells are set, and all others are empty.
use Rattle.std.proofs.Common.{◌≡◌, ap, ◌∙◌, List, ◌++◌, append-nil, ℕ, suc, ◌+◌, ◌*◌, ◌/◌, ◌%◌, ◌^◌, ◌-◌, set, length-set, lit<, shl_exact, arith}
use Rattle.places.specs.Sets.{empty}
use Rattle.labels.specs.Labels.{labels_by, own_labels, no_labels}
use Rattle.labels.proofs.Labels.{own_turn}
use Rattle.labels.proofs.own_labels.Goals as goal

pub loop-place-init : goal.loop-place-init
unfolding labels_by no_labels
loop-place-init c = (c.fill.ensures.after (λ y e. e) ∙ ap empty c.requires, c.fill.ensures.len ∙ c.requires)

pub loop-place-preserved : goal.loop-place-preserved
loop-place-preserved c =
    let p = c.loop-place.place in
    let more : 512 - p ≡ suc (511 - p) = omega arith in
    let rest : 511 - p ≡ 512 - (p + 1) = omega arith in
    let bit = shl_exact {a = 1} 1 (p % 64) 64 (lit< tt) (omega arith) in (
      ap (λ (s : List ℕ). set s (8 * p + p / 64) (1 * 2 ^ (p % 64) % 2 ^ 64)) (c.loop-place.invariant.0 ∙ ap (λ (m : ℕ). own_labels p ++ no_labels m) more)
          ∙ own_turn p (511 - p) _ (omega arith) (bit ∙ omega arith)
          ∙ ap (λ (m : ℕ). own_labels (p + 1) ++ no_labels m) rest,
      length-set c.loop-place.labels (8 * p + p / 64) _ ∙ c.loop-place.invariant.1,
    )

pub returns : goal.returns
unfolding no_labels
returns c =
    let e : c.loop-place.place ≡ 512 = omega arith in
    c.loop-place.invariant.0 ∙ rw e (append-nil (own_labels 512))
