-- `records::right_fits` meets its contract: each test is one of the definition's, in its order.
use mathlib.Core.Path.{◌≡◌, sym, ap, ◌∙◌}
use mathlib.Core.Bool.{cond}
use mathlib.Core.List.{List}
use Prim.Native.Nat.{ℕ, ◌+◌, ◌≤◌, ◌<◌}
use lib.Dec.{eqb}
use lib.ListN.{length}
use borrow.Author.Tests.{le-leb, lt-leb, lt-ltb, le-ltb}
use Rattle.book.specs.Bytes.{byte}
use Rattle.book.specs.Records.{rights_format}
use Rattle.book.specs.Layout.{decode}
use Rattle.book.specs.Refusals.{right_fits}
use Rattle.book.proofs.Chains.{pass, fail}
use Rattle.book.proofs.Decoded.{count_regions}
use native.Mathlib.Omega.{arith}
use Rattle.records.proofs.right_fits.Goals as goal
use Rattle.records.proofs.right_fits.Tie as tie
use Rattle.records.proofs.right_fits.Lts as lts
use Rattle.records.proofs.right_fits.Reads as reads

pub returns-then-kind-gt2 : goal.returns-then-kind-gt2
unfolding right_fits rights_format
returns-then-kind-gt2 c =
    let s : List ℕ = c.before.before.before.args.file.now in
    let at : ℕ = c.before.before.before.args.at in
    let kind : 2 < byte s at = omega arith in
    sym (fail _ (lt-leb _ _ kind))

-- the highest user of the record's kind
highest : (c : lts.After-last_user tie.the-claims reads.Pre reads.Post) → c.last_user.result ≡ cond (eqb (byte c.before.before.before.before.args.file.now c.before.before.before.before.args.at) 0) 0 7
highest c = c.last_user.ensures ∙ ap (λ (n : ℕ). cond (eqb n 0) 0 7) c.before.before.byte_at-kind.ensures.0

pub returns-then-last_user-byte_at : goal.returns-then-last_user-byte_at
unfolding right_fits rights_format
returns-then-last_user-byte_at c =
    let s : List ℕ = c.before.before.before.before.before.before.args.file.now in
    let at : ℕ = c.before.before.before.before.before.before.args.at in
    let kind : byte s at ≤ 2 = omega arith in
    let user : cond (eqb (byte s at) 0) 0 7 < byte s (at + 1) = omega (arith, highest c.before.before.before) in
    sym (pass (le-leb _ _ kind) (fail _ (lt-leb _ _ user)))

pub returns-then-regions-byte_at : goal.returns-then-regions-byte_at
unfolding right_fits rights_format
returns-then-regions-byte_at c =
    let s : List ℕ = c.before.before.before.before.before.before.before.before.args.file.now in
    let at : ℕ = c.before.before.before.before.before.before.before.before.args.at in
    let kind : byte s at ≤ 2 = omega arith in
    let user : byte s (at + 1) ≤ cond (eqb (byte s at) 0) 0 7 = omega (arith, highest c.before.before.before.before.before) in
    let region : length (decode s).regions ≤ byte s (at + 2) = omega (arith, count_regions s) in
    sym (pass (le-leb _ _ kind) (pass (le-leb _ _ user) (fail _ (le-ltb _ _ region))))

pub returns : goal.returns
unfolding right_fits rights_format
returns c =
    let s : List ℕ = c.before.before.before.before.before.before.before.before.before.args.file.now in
    let at : ℕ = c.before.before.before.before.before.before.before.before.before.args.at in
    let kind : byte s at ≤ 2 = omega arith in
    let user : byte s (at + 1) ≤ cond (eqb (byte s at) 0) 0 7 = omega (arith, highest c.before.before.before.before.before.before) in
    let region : byte s (at + 2) < length (decode s).regions = omega (arith, count_regions s) in
    let zero : c.byte_at-3.result ≡ byte s (at + 3) = c.byte_at-3.ensures.0 in
    sym (pass (le-leb _ _ kind) (pass (le-leb _ _ user) (pass (lt-ltb _ _ region) (ap (λ (n : ℕ). eqb n 0) (sym zero)))))
