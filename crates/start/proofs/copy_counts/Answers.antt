-- `start::copy_counts` meets its contract: the counts of the sections passed are stored.
use mathlib.Core.Path.{◌≡◌}
use mathlib.Core.List.{List}
use Prim.Native.Nat.{ℕ, ◌+◌, ◌*◌, ◌≤◌, ◌<◌}
use native.Mathlib.Omega.{arith}
use lib.ListN.{length}
use borrow.Author.Rules.{rules}
use Rattle.book.specs.Bytes.{two}
use Rattle.book.specs.Layout.{pair_start, count}
use Rattle.book.proofs.Accepted.{placed}
use Rattle.machine.specs.Script.{counts_start}
use Rattle.start.proofs.Copies.{numbers_none, numbers_turn, le16_same, le16_stored, stored_stays}
use Rattle.start.proofs.copy_counts.Goals as goal

pub loop-i-init : goal.loop-i-init
loop-i-init c = (search rules, numbers_none)

pub section_at-section-requires : goal.section_at-section-requires
section_at-section-requires c =
    let s = c.before.before.before.before.before in
    let sited = placed s.args.file.now s.requires.0 in
    let h : c.before.loop-i.i + 1 < 6 = omega arith in
    (h, sited.long, sited.back (c.before.loop-i.i + 1) h)

pub put_u16-requires : goal.put_u16-requires
put_u16-requires c =
    let l = c.before.before.before.before in
    omega (arith, l.loop-i.invariant.1.long, l.before.before.before.requires.1)

pub loop-i-preserved : goal.loop-i-preserved
loop-i-preserved c =
    let l = c.before.before.before.before.before.before.before in
    let s = l.before.before.before in
    let i : ℕ = l.loop-i.i in
    let code : List ℕ = l.loop-i.code in
    let n : ℕ = count s.args.file.now (i + 1) in
    let here : counts_start + 2 * i ≤ length code = omega (arith, l.loop-i.invariant.1.long, s.requires.1) in
    let e = rw c.before.before.before.before.section_at-section.ensures at c.before.before.put_u16.ensures in
    let byte = l.before.before.shared_slice_known-1.given in
    let at : ℕ = pair_start s.args.file.now (i + 1) + 2 in (
      omega arith,
      numbers_turn le16_same l.loop-i.invariant.1 c.before.before.put_u16.auto.out (stored_stays code (two n) _ (counts_start + 2 * i) here e)
          (le16_stored code _ _ (counts_start + 2 * i) n here e (omega (arith, byte at, byte (at + 1)))),
    )

pub returns : goal.returns
returns c =
    let l = c.before.loop-i in
    let e : l.i ≡ 5 = omega arith in
    (l.invariant.1.stays, rw e at l.invariant.1.are)
