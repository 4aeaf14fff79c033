-- `book::section_at` meets its contract: the pair of section i stands 28 bytes before the file's end and 4 · i on.
use mathlib.Core.Path.{◌≡◌, sym, ap, ◌∙◌}
use mathlib.Core.List.{List}
use Prim.Native.Nat.{ℕ, ◌+◌, ◌-◌, ◌*◌}
use lib.ListN.{length}
use native.Mathlib.Omega.{arith}
use Rattle.book.specs.Bytes.{le16}
use Rattle.book.specs.Layout.{trailer, pair_start, distance, count}
use Rattle.book.proofs.Sections.{six_pairs}
use Rattle.book.proofs.section_at.Goals as goal
use Rattle.book.proofs.section_at.Tie as tie
use Rattle.book.proofs.section_at.Lts as lts
use Rattle.book.proofs.section_at.Reads as reads

-- where the pair stands
at : (c : lts.After-u16_at2 tie.the-claims reads.Pre reads.Post)
    → let s : List ℕ = c.before.before.before.args.file.now in
    let i : ℕ = c.before.before.before.args.i in
    length s - 28 + 4 * i ≡ pair_start s i
at c =
    let s : List ℕ = c.before.before.before.args.file.now in
    let i : ℕ = c.before.before.before.args.i in
    let six : length s - 28 + 4 * i ≡ trailer s + 8 + 4 * i = omega arith in
    six ∙ sym (six_pairs s i (omega arith))

-- the two numbers of the pair
back : (c : lts.After-u16_at2 tie.the-claims reads.Pre reads.Post) → c.before.u16_at-distance.result ≡ distance c.before.before.before.args.file.now c.before.before.before.args.i
back c =
    c.before.u16_at-distance.ensures.0 ∙ ap (le16 c.before.before.before.args.file.now) (at c)

records : (c : lts.After-u16_at2 tie.the-claims reads.Pre reads.Post) → c.u16_at-count.result ≡ count c.before.before.before.args.file.now c.before.before.before.args.i
records c =
    c.u16_at-count.ensures.0 ∙ ap (λ (n : ℕ). le16 c.before.before.before.args.file.now (n + 2)) (at c)

pub overflow_sub-result : goal.overflow_sub-result
overflow_sub-result c = omega (arith, back c.before)

pub returns : goal.returns
returns c = cc (back c.before, records c.before)
