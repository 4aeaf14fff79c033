-- `regions::repeated` meets its contract: the word holds the pattern at the positions passed.
use Rattle.std.proofs.Common.{◌≡◌, refl, sym, ◌∙◌, true, false, ◌+◌, ◌*◌, ◌%◌, ◌^◌, ◌≤◌, ◌<◌, ℕ, mul-add, mul-one, mul-le-mul, lt_of_lt_of_le, add-zero, add-one, shl_exact, pow_mono, arith}
use Rattle.regions.specs.Regions.{repeated}
use Rattle.regions.proofs.Regions.{repeated_lt, repeated_turn}
use Rattle.regions.proofs.repeated.Goals as goal
use Rattle.regions.proofs.repeated.Goals.{Then-contains, then-contains, else-contains}

pub loop-position-init : goal.loop-position-init
unfolding repeated
loop-position-init c = refl

-- the pattern at position i ends within the word
fits_word : (width i : ℕ) → width ≤ 8 → i < 8 → width * (i + 1) ≤ 64
fits_word width i h l = rw (add-one i) (mul-le-mul h l)

-- the pattern is added at the position
next : (c : Then-contains)
    → c.loop-position.word + c.args.pattern * 2 ^ (c.args.width * c.loop-position.position) % 2 ^ 64 ≡ repeated c.args.pattern c.args.width c.args.range (c.loop-position.position + 1)
next c =
    let a = c.args in
    let i = c.loop-position.position in
    let room : a.width + a.width * i ≤ 64 = omega (arith, fits_word a.width i c.requires.1 (omega arith), mul-add a.width i 1, mul-one a.width) in
    rw (shl_exact a.width (a.width * i) 64 c.requires.0 room, c.loop-position.invariant) (sym (repeated_turn a.pattern a.width a.range i true (sym c.contains.ensures ∙ c.if-contains.true)))

pub overflow_add-word : goal.overflow_add-word
overflow_add-word c =
    record { fits = rw (next c) (lt_of_lt_of_le (repeated_lt c.args.pattern c.args.width _ (c.loop-position.position + 1) c.requires.0) (pow_mono (fits_word c.args.width c.loop-position.position c.requires.1 (omega arith)))) }

pub loop-position-preserved : goal.loop-position-preserved
loop-position-preserved c = elim c.if-contains.branch [
  | then-contains w ↦ w.word-is ∙ next (record { before = c.before; if-contains = w.if-contains })
  | else-contains w ↦ w.word-is ∙ c.loop-position.invariant ∙ sym (repeated_turn c.args.pattern c.args.width c.args.range c.loop-position.position false (sym c.contains.ensures ∙ w.if-contains.false) ∙ add-zero _)
]
