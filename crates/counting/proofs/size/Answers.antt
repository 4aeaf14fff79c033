-- `counting::size` meets its contract: after some words, the members of those words are counted.
use Rattle.std.proofs.Common.{◌≡◌, refl, ap, ◌∙◌, ℕ, ◌*◌, length, get_or, Fits, w64, rules, arith}
use lib.Count.{ones-le}
use Rattle.places.specs.Sets.{has, tally, size}
use Rattle.counting.proofs.Ones.{tally_word}
use Rattle.counting.proofs.size.Goals as goal

pub loop-word-init : goal.loop-word-init
unfolding tally
loop-word-init c = (refl, search rules)

pub loop-word-preserved : goal.loop-word-preserved
loop-word-preserved c =
    let i = c.loop-word.word-index in
    let word : Fits w64 (get_or c.args.set i 0) = search rules in
    (omega (arith, tally_word c.args.set i word.fits), omega (arith, ones-le 64 _ word.fits))

pub returns : goal.returns
unfolding size
returns c =
    let all : c.loop-word.word-index ≡ length c.args.set = omega arith in
    c.loop-word.invariant.0 ∙ ap (λ (n : ℕ). tally (has c.args.set) (64 * n)) all
