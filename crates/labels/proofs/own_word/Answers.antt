-- `labels::own_word` meets its contract: one bit of one word.
use Rattle.std.proofs.Common.{◌≡◌, sym, ◌∙◌, ◌*◌, ◌%◌, ◌^◌, lit<, shl_exact, arith}
use Rattle.labels.proofs.Labels.{own_bit, own_zero}
use Rattle.labels.proofs.own_word.Goals as goal

pub returns-then-word-place : goal.returns-then-word-place
returns-then-word-place c = sym (own_zero c.args.place c.args.word c.requires.0 c.requires.1 c.if-word-place.true)

pub returns : goal.returns
returns c =
    let p = c.args.place in
    let bit : 1 * 2 ^ (p % 64) ≡ 2 ^ (p % 64) = omega arith in
    shl_exact 1 (p % 64) 64 (lit< tt) (omega arith) ∙ bit ∙ sym (rw c.if-word-place.false (own_bit p c.requires.0))
