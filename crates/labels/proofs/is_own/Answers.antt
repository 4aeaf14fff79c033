-- `labels::is_own` meets its contract: the words so far are those of the place alone.
use Rattle.std.proofs.Common.{◌≡◌, sym, ◌∙◌, arith}
use Rattle.places.specs.Sets.{single}
use Rattle.places.proofs.Sets.{length_single}
use Rattle.places.proofs.SameWords.{upto_next, same_differs, same_all}
use Rattle.labels.proofs.Labels.{label_word, length_label}
use Rattle.labels.proofs.is_own.Goals as goal

-- at the first word that differs
pub returns-then-labels-place : goal.returns-then-labels-place
returns-then-labels-place c =
    let word = label_word c.args.labels.now c.args.place c.loop-word.word (omega arith) in
    sym (same_differs _ (single 8 c.args.place) c.loop-word.word (λ e. c.if-labels-place.true (sym word ∙ e ∙ sym c.own_word.ensures)))

pub loop-word-preserved : goal.loop-word-preserved
loop-word-preserved c =
    let word = label_word c.args.labels.now c.args.place c.loop-word.word (omega arith) in
    upto_next c.loop-word.invariant (word ∙ c.if-labels-place.false ∙ c.own_word.ensures)

-- past the last word
pub returns : goal.returns
returns c =
    let e : c.loop-word.word ≡ 8 = omega arith in
    sym (same_all (length_label c.args.labels.now c.args.place c.requires.1) (length_single 8 c.args.place) (rw e at c.loop-word.invariant))
