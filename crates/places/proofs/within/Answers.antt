-- `places::within` meets its contract: no word so far has a missing place.
use mathlib.Core.Path.{◌≡◌, sym, ap, ◌∙◌}
use mathlib.Core.Bool.{true, not}
use native.Mathlib.Omega.{arith}
use borrow.Author.Tests.{eq-eqb, ne_eqb}
use Rattle.places.specs.Sets.{misses}
use Rattle.places.proofs.Counting.{none_next}
use Rattle.places.proofs.Comparing.{misses_word, ends_at, ends_past}
use Rattle.places.proofs.within.Goals as goal

-- at the first word with a missing place
pub returns-then-missing-ne0 : goal.returns-then-missing-ne0
returns-then-missing-ne0 c =
    let missing : misses c.args.a c.args.b c.loop-word.word ≡ true = misses_word c.args.a c.args.b c.loop-word.word ∙ ap not (ne_eqb _ _ c.if-missing-ne0.true) in
    let end = ends_at c.args.a c.args.b c.loop-word.word (omega arith) missing c.loop-word.invariant in
    (sym end.0, omega (arith, end.1))

pub loop-word-preserved : goal.loop-word-preserved
loop-word-preserved c = none_next _ _ c.loop-word.invariant (misses_word c.args.a c.args.b c.loop-word.word ∙ ap not (eq-eqb _ _ c.if-missing-ne0.false))

-- past the last word
pub returns : goal.returns
returns c =
    let past = ends_past c.args.a c.args.b (λ k h. c.loop-word.invariant k (omega arith)) in
    (sym past.0, omega (arith, past.1))
