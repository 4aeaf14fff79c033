-- `nodes::child_fits` meets its contract: the number is tested before the sort is read.
use mathlib.Core.Path.{refl, sym}
use Prim.Native.Nat.{◌≤◌, ◌<◌}
use native.Mathlib.Omega.{arith}
use borrow.Author.Tests.{lt-ltb, le-ltb}
use Rattle.book.proofs.Chains.{pass, fail}
use Rattle.nodes.proofs.child_fits.Goals as goal

pub returns-then-n-v : goal.returns-then-n-v
returns-then-n-v c =
    let s = c.before in
    let h : s.args.n ≤ s.args.v = omega (arith, c.if-n-v.true) in
    sym (fail _ (le-ltb _ _ h))

pub returns : goal.returns
returns c =
    let s = c.before.before.before in
    let h : s.args.v < s.args.n = omega (arith, c.before.if-n-v.false) in
    sym (pass (lt-ltb _ _ h) refl)
