-- `book::region_at` meets its contract: each byte that is read is the record's.
use mathlib.Core.Path.{◌≡◌}
use mathlib.Core.List.{List}
use Prim.Native.Nat.{ℕ, ◌+◌}
use Rattle.book.specs.Bytes.{byte}
use Rattle.book.specs.Records.{regions_format}
use Rattle.book.proofs.region_at.Goals as goal

pub returns : goal.returns
unfolding regions_format
returns c =
    let s : List ℕ = c.before.before.before.before.before.before.args.file.now in
    let at : ℕ = c.before.before.before.before.before.before.args.at in
    let table : c.before.before.before.before.byte_at-table.result ≡ byte s at = c.before.before.before.before.byte_at-table.ensures.0 in
    let owner_first : c.before.before.before.byte_at.result ≡ byte s (at + 1) = c.before.before.before.byte_at.ensures.0 in
    let owner_last : c.before.before.byte_at-2.result ≡ byte s (at + 2) = c.before.before.byte_at-2.ensures.0 in
    let line_first : c.before.byte_at-3.result ≡ byte s (at + 3) = c.before.byte_at-3.ensures.0 in
    let line_last : c.byte_at-4.result ≡ byte s (at + 4) = c.byte_at-4.ensures.0 in
    rw (table, owner_first, owner_last, line_first, line_last)
