-- `counting::lowest` meets its contract: the words before the first that is not 0 have no members, and that one has the lowest.
use Rattle.std.proofs.Common.{◌≡◌, ◌≢◌, sym, ◌∙◌, length, get_or, zero-le, Fits, w64, rules, tests, arith}
use Rattle.std.proofs.lemmas.Iterator.{YieldsList-from_slice, IsFirst-from_position}
use Rattle.counting.proofs.Zeros.{lowest_missing, lowest_word}
use Rattle.counting.proofs.lowest.Goals as goal

pub returns-in_err-word-clause-is : goal.returns-in_err-word-clause-is
returns-in_err-word-clause-is c =
    let none = IsFirst-from_position _ _ c.position.result (λ w. w ≢ 0) (λ w. w ≡ 0) c.position.ensures.ran (YieldsList-from_slice c.args.set c.iter.ensures.rest) (λ x q k. search (rules, tests)) (λ x q k. search (rules, tests)) in
    let zeros = rw c.in_err-word.was at none in
    c.from_residual.ensures ∙ sym (lowest_missing c.args.set (length c.args.set) (omega arith) (λ i l. zeros i 0 zero-le l))

pub returns-clause-is : goal.returns-clause-is
returns-clause-is c =
    let first = IsFirst-from_position _ _ c.position.result (λ w. w ≢ 0) (λ w. w ≡ 0) c.position.ensures.ran (YieldsList-from_slice c.args.set c.iter.ensures.rest) (λ x q k. search (rules, tests)) (λ x q k. search (rules, tests)) in
    let here = rw c.in_ok-word.was at first in
    let word : Fits w64 (get_or c.args.set c.in_ok-word.word 0) = search rules in
    sym (lowest_word c.args.set c.in_ok-word.word (λ i l. here.2 i 0 zero-le l) (omega (arith, here.1 0)) word.fits)
