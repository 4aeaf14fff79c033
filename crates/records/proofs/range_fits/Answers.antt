-- `records::range_fits` meets its contract.
use mathlib.Core.Path.{sym, refl}
use Prim.Native.Nat.{◌≤◌, ◌<◌}
use borrow.Author.Tests.{le-leb, lt-leb}
use Rattle.book.proofs.Chains.{pass, fail}
use Rattle.records.proofs.range_fits.Goals as goal

pub returns-then-last-first : goal.returns-then-last-first
returns-then-last-first c =
    let crossed : c.before.args.range.last < c.before.args.range.first = c.if-last-first.true in
    sym (fail _ (lt-leb _ _ crossed))

pub returns : goal.returns
returns c =
    let ordered : c.before.args.range.first ≤ c.before.args.range.last = c.if-last-first.false in
    sym (pass (le-leb _ _ ordered) refl)
