-- `label_records::own_alone` meets its contract: the words so far are those of the place alone.
use mathlib.Core.Path.{◌≡◌, sym, ◌∙◌}
use Prim.Native.Nat.{ℕ}
use lib.ListN.{get_or}
use borrow.Author.Rules.{rules}
use native.Mathlib.Omega.{arith}
use Rattle.places.specs.Sets.{single}
use Rattle.places.proofs.Sets.{length_single}
use Rattle.places.proofs.SameWords.{upto_none, upto_next, same_differs, same_all}
use Rattle.label_records.proofs.Labels.{read_label, length_label, label_word}
use Rattle.label_records.proofs.own_alone.Goals as goal
use Rattle.label_records.proofs.own_alone.Tie as tie
use Rattle.label_records.proofs.own_alone.Lts as lts
use Rattle.label_records.proofs.own_alone.Reads as reads

pub loop-same-init : goal.loop-same-init
loop-same-init c = (search rules, upto_none)

-- the word of the label at the loop's turn
word_is : (c : lts.After-u64_at tie.the-claims reads.Pre reads.Post goal.the-invariant-loop-same goal.the-decreases-loop-same)
    → let s = c.before.before.before.before in
    c.u64_at.result ≡ get_or (read_label s.args.file.now s.args.at) c.before.before.loop-same.same 0
word_is c =
    let s = c.before.before.before.before in
    label_word s.args.file.now s.args.at c.before.before.loop-same.same (omega arith) c.u64_at.ensures c.u64_at.type_inv

-- at the first word that differs
pub returns-then-u64_at-own_word : goal.returns-then-u64_at-own_word
returns-then-u64_at-own_word c =
    let s = c.before.before.before.before.before.before.before in
    let w : ℕ = c.before.before.before.before.loop-same.same in
    let p : ℕ = s.args.place in
    sym
    (same_differs (read_label s.args.file.now s.args.at) (single 8 p) w
    (λ e. c.if-u64_at-own_word.true (word_is c.before.before.before ∙ e ∙ sym c.before.own_word.ensures)))

pub loop-same-preserved : goal.loop-same-preserved
loop-same-preserved c =
    let l = c.before.before.before.before.loop-same in
    (omega arith, upto_next l.invariant.1 (sym (word_is c.before.before.before) ∙ c.if-u64_at-own_word.false ∙ c.before.own_word.ensures))

-- past the last word
pub returns : goal.returns
returns c =
    let l = c.before.loop-same in
    let s = c.before.before.before.before in
    let e : l.same ≡ 8 = omega arith in
    sym (same_all (length_label s.args.file.now s.args.at) (length_single 8 s.args.place) (rw e at l.invariant.1))
