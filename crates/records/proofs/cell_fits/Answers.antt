-- `records::cell_fits` meets its contract: each test is one of the definition's, in its order.
use mathlib.Core.Path.{◌≡◌, sym, ap}
use mathlib.Core.List.{List}
use Prim.Native.Nat.{ℕ, ◌+◌, ◌≤◌, ◌<◌}
use lib.Dec.{eqb}
use borrow.Author.Tests.{le-leb, lt-leb}
use Rattle.book.specs.Bytes.{byte}
use Rattle.book.specs.Records.{cells_format}
use Rattle.book.specs.Refusals.{cell_fits}
use Rattle.book.proofs.Chains.{pass, fail}
use native.Mathlib.Omega.{arith}
use Rattle.records.proofs.cell_fits.Goals as goal

pub returns-then-byte_at-gt7 : goal.returns-then-byte_at-gt7
unfolding cell_fits cells_format
returns-then-byte_at-gt7 c =
    let s : List ℕ = c.before.before.before.args.file.now in
    let at : ℕ = c.before.before.before.args.at in
    let table : 7 < byte s at = omega arith in
    sym (fail _ (lt-leb _ _ table))

pub returns-then-byte_at-gt7-2 : goal.returns-then-byte_at-gt7-2
unfolding cell_fits cells_format
returns-then-byte_at-gt7-2 c =
    let s : List ℕ = c.before.before.before.before.before.args.file.now in
    let at : ℕ = c.before.before.before.before.before.args.at in
    let table : byte s at ≤ 7 = omega arith in
    let owner : 7 < byte s (at + 1) = omega arith in
    sym (pass (le-leb _ _ table) (fail _ (lt-leb _ _ owner)))

pub returns-then-byte_at-gt7-3 : goal.returns-then-byte_at-gt7-3
unfolding cell_fits cells_format
returns-then-byte_at-gt7-3 c =
    let s : List ℕ = c.before.before.before.before.before.before.before.args.file.now in
    let at : ℕ = c.before.before.before.before.before.before.before.args.at in
    let table : byte s at ≤ 7 = omega arith in
    let owner : byte s (at + 1) ≤ 7 = omega arith in
    let line : 7 < byte s (at + 2) = omega arith in
    sym (pass (le-leb _ _ table) (pass (le-leb _ _ owner) (fail _ (lt-leb _ _ line))))

pub returns : goal.returns
unfolding cell_fits cells_format
returns c =
    let s : List ℕ = c.before.before.before.before.before.before.before.before.args.file.now in
    let at : ℕ = c.before.before.before.before.before.before.before.before.args.at in
    let table : byte s at ≤ 7 = omega arith in
    let owner : byte s (at + 1) ≤ 7 = omega arith in
    let line : byte s (at + 2) ≤ 7 = omega arith in
    let zero : c.byte_at-4.result ≡ byte s (at + 3) = c.byte_at-4.ensures.0 in
    sym (pass (le-leb _ _ table) (pass (le-leb _ _ owner) (pass (le-leb _ _ line) (ap (λ (n : ℕ). eqb n 0) (sym zero)))))
