-- `encoder::copy_part` meets its contract: the bytes passed are stored in their place.
use mathlib.Core.Path.{◌≡◌, refl, sym, ◌∙◌}
use mathlib.Core.List.{List}
use Prim.Native.Nat.{ℕ, ◌+◌, ◌<◌}
use lib.ListN.{length, get_or, take, drop, length-set, length-take, length-drop}
use lib.Seq.{paste-zero, get_or-take, get_or-drop}
use Rattle.places.proofs.Loops.{store_turn, store_end}
use native.Mathlib.Omega.{arith}
use Rattle.encoder.proofs.copy_part.Goals as goal

pub loop-copied-init : goal.loop-copied-init
loop-copied-init c = (paste-zero c.args.out.now c.args.at (take c.args.count (drop c.args.from c.args.source.now)), refl)

pub loop-copied-preserved : goal.loop-copied-preserved
loop-copied-preserved c =
    let s = c.args in
    let i : ℕ = c.loop-copied.copied in
    let p : List ℕ = take s.count (drop s.from s.source.now) in
    let lt : i < s.count = omega arith in
    let n : length p ≡ s.count = simp (length-take, length-drop) (omega arith) in
    let e : get_or s.source.now (s.from + i) 0 ≡ get_or p i 0 = sym (rw (get_or-take, get_or-drop)) in
    (rw e (store_turn s.out.now p _ s.at i (omega arith) (omega arith) c.loop-copied.invariant.0), simp length-set c.loop-copied.invariant.1)

pub returns : goal.returns
returns c =
    let s = c.args in
    let p : List ℕ = take s.count (drop s.from s.source.now) in
    let n : length p ≡ s.count = simp (length-take, length-drop) (omega arith) in
    store_end s.out.now p _ s.at c.loop-copied.copied (omega arith) c.loop-copied.invariant.0 ∙ rw n
