-- `start::copy_section` meets its contract: the bytes of the section are stored.
use mathlib.Core.Path.{◌≡◌, ap, ◌∙◌}
use mathlib.Core.List.{List}
use Prim.Native.Nat.{ℕ, ◌*◌}
use native.Mathlib.Omega.{arith}
use lib.ListN.{length, take, drop, length-take, length-drop}
use lib.Seq.{take_at}
use Rattle.book.specs.Layout.{section}
use Rattle.book.proofs.Accepted.{placed}
use Rattle.start.proofs.Copies.{stored_stays, stored_there}
use Rattle.start.proofs.copy_section.Goals as goal

pub section_at-section-requires : goal.section_at-section-requires
section_at-section-requires c =
    let s = c.before.before.before in
    let sited = placed s.args.file.now s.requires.0 in
    (s.requires.1, sited.long, sited.back s.args.i s.requires.1)

pub overflow_mul-size : goal.overflow_mul-size
overflow_mul-size c = rw c.before.section_at-section.ensures (omega (arith, c.before.before.before.before.requires.3))

pub copy_part-requires : goal.copy_part-requires
copy_part-requires c =
    let pre = c.before.before.before.before.before.requires in
    rw c.before.before.section_at-section.ensures (pre.2, pre.3)

pub returns : goal.returns
returns c =
    let s = c.before.before.before.before.before.before.before.before.before in
    let from : ℕ = (section s.args.file.now s.args.i).start in
    let n : ℕ = s.args.size * (section s.args.file.now s.args.i).count in
    let part : List ℕ = take n (drop from s.args.file.now) in
    let e = rw c.before.before.before.before.before.section_at-section.ensures at c.before.before.copy_part.ensures in
    let long : length part ≡ n = simp (length-take, length-drop) (omega (arith, s.requires.2)) in
    let h = s.requires.3 in (
      stored_stays s.args.code.now part _ s.args.at (omega (arith, h)) e,
      ap (take n) (stored_there s.args.code.now part _ s.args.at (omega (arith, h)) e) ∙ take_at part _ n long,
    )
