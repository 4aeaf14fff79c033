-- `encoder::put_pairs` meets its contract: the pairs of the sections from `section` on are written.
use mathlib.Core.Path.{◌≡◌, refl, sym, ap, ◌∙◌}
use mathlib.Core.List.{List}
use Prim.Native.Nat.{ℕ, ◌+◌, ◌-◌, ◌*◌, ◌≤◌}
use native.Mathlib.Nat.{mul-le-mul}
use lib.ListN.{length, get_or}
use Rattle.book.specs.Bytes.{le16}
use Rattle.book.specs.Layout.{trailer, count}
use Rattle.book.proofs.Sections.{six_pairs}
use Rattle.encoder.proofs.Stores.{same_length as stored_length}
use Rattle.encoder.proofs.Steps.{sizes, size_le, paired_none, paired_turn, paired_done}
use native.Mathlib.Omega.{arith}
use Rattle.encoder.proofs.put_pairs.Goals as goal
use Rattle.encoder.proofs.put_pairs.Tie as tie
use Rattle.encoder.proofs.put_pairs.Lts as lts
use Rattle.encoder.proofs.put_pairs.Reads as reads

pub loop-section-init : goal.loop-section-init
loop-section-init c =
    let s = c.before.before.before in
    paired_none s.args.file.now s.args.cells s.args.behind s.args.out.now s.args.at s.requires.3 s.requires.1

-- the count read is that of the section before
counted : (c : lts.After-u16_at tie.the-claims reads.Pre reads.Post goal.the-invariant-loop-section goal.the-decreases-loop-section) → c.u16_at-count.result ≡ count c.before.before.before.before.before.args.file.now (c.before.before.loop-section.section - 1)
counted c =
    let s : List ℕ = c.before.before.before.before.before.args.file.now in
    let l = c.before.before.loop-section in
    let i : ℕ = l.section - 1 in
    let at : length s - 26 + 4 * i ≡ trailer s + 8 + 4 * i + 2 = omega arith in
    c.u16_at-count.ensures.0 ∙ ap (le16 s) (at ∙ ap (λ (n : ℕ). n + 2) (sym (six_pairs s i (omega (arith, l.invariant.upto)))))

-- a section's bytes are few enough that the sums do not wrap
bytes_le : (c : lts.After-u16_at tie.the-claims reads.Pre reads.Post goal.the-invariant-loop-section goal.the-decreases-loop-section) → c.u16_at-count.result * get_or sizes (c.before.before.loop-section.section - 1) 0 ≤ 65536 * 66
bytes_le c = mul-le-mul {n₂ = 65536} (omega arith) (size_le (c.before.before.loop-section.section - 1) (omega (arith, c.before.before.loop-section.invariant.upto)))

pub overflow_mul-distance : goal.overflow_mul-distance
overflow_mul-distance c = omega (arith, bytes_le c.before.before.before)

pub overflow_add-distance : goal.overflow_add-distance
overflow_add-distance c = omega (arith, bytes_le c.before.before.before, c.before.before.loop-section.invariant.small)

pub put_pair-requires : goal.put_pair-requires
put_pair-requires c = omega (arith, stored_length c.before.before.before.loop-section.invariant.pairs_are)

pub loop-section-preserved : goal.loop-section-preserved
loop-section-preserved c =
    let s = c.before.before.before.before.before.before.before.before.before.before in
    let l = c.before.before.before.before.before.before.loop-section in
    let n = counted c.before.before.before.before.before.before.before in
    paired_turn s.args.file.now s.args.cells l.invariant (l.section - 1) _ _ (omega arith) (omega arith) (omega (arith, n)) (rw n) (rw (← n) c.before.before.put_pair.ensures)

pub overflow_add-whole : goal.overflow_add-whole
overflow_add-whole c = omega (arith, c.before.loop-section.invariant.small)

pub put_pair-requires-2 : goal.put_pair-requires-2
put_pair-requires-2 c = omega (arith, stored_length c.before.before.loop-section.invariant.pairs_are)

pub shape_of-out : goal.shape_of-out
shape_of-out c = omega (arith, stored_length c.before.before.before.before.before.loop-section.invariant.pairs_are)

pub returns : goal.returns
returns c =
    let s = c.before.before.before.before.before.before.before.before.before in
    let l = c.before.before.before.before.before.loop-section in
    let done = paired_done s.args.file.now s.args.cells l.invariant (omega arith) _ _ refl c.before.before.put_pair-2.ensures in
    (done.0, done.1, omega (arith, l.invariant.small))
