-- `trailer::sections_fit` meets its contract: the tests that are left from a pair on decide the whole.
use mathlib.Core.Path.{◌≡◌, refl, sym, ap, ◌∙◌}
use mathlib.Core.Bool.{Bool, true, false, ◌&&◌, cond}
use mathlib.Core.List.{List}
use Prim.Native.Nat.{ℕ, ◌+◌, ◌*◌, ◌≤◌, ◌<◌}
use native.Mathlib.Nat.{mul-le-mul}
use lib.Dec.{eqb, leb}
use lib.ListN.{length, get_or, drop}
use borrow.Author.Tests.{eq-eqb, ne_eqb, le-leb, lt-leb}
use Rattle.book.specs.Bytes.{le16}
use Rattle.book.specs.Layout.{remembers, tail_size, distance, count, bounds, in_order}
use Rattle.book.specs.Refusals.{sections_fit}
use Rattle.book.proofs.Chains.{pass, fail}
use Rattle.book.proofs.Sections.{mosts, sizes, sections, in_order_turn, in_order_end, in_order_room, size_le}
use borrow.Author.Rules.{rules}
use native.Mathlib.Omega.{arith}
use Rattle.trailer.proofs.sections_fit.Goals as goal
use Rattle.trailer.proofs.sections_fit.Tie as tie
use Rattle.trailer.proofs.sections_fit.Lts as lts
use Rattle.trailer.proofs.sections_fit.Reads as reads

-- what the version says of the bytes behind the sections
behind_is : (x : Bool) → (cond x 7 6 ≤ 7) × (cond x 40 36 ≡ 12 + 4 * cond x 7 6)
behind_is true = (omega arith, refl)
behind_is false = (omega arith, refl)

counted : (c : lts.After-section_count tie.the-claims reads.Pre reads.Post goal.the-invariant-loop-pair goal.the-decreases-loop-pair) → let n : ℕ = c.section_count-sections.result in
    let s : List ℕ = c.before.before.args.file.now in
    (n ≤ 7) × (tail_size s ≡ 12 + 4 * n)
counted c = rw c.section_count-sections.ensures (behind_is (remembers c.before.before.args.file.now))

pub overflow_mul-behind : goal.overflow_mul-behind
overflow_mul-behind c = omega (arith, (counted c.before).0)

pub overflow_add-behind : goal.overflow_add-behind
overflow_add-behind c = omega (arith, (counted c.before).0)

-- a file too short for what stands behind the sections
short : (s : List ℕ) → length s < tail_size s → (x : Bool) → sections_fit s ≡ x → false ≡ x
unfolding sections_fit
short s h true e =
    let room : tail_size s ≤ length s = in_order_room s 0 0 (bounds s) e in
    absurd (omega arith)
short s h false e = refl

pub returns-then-length-behind : goal.returns-then-length-behind
returns-then-length-behind c =
    let s : List ℕ = c.before.before.before.args.file.now in
    let h : length s < tail_size s = omega (arith, (counted c.before.before).1, c.if-length-behind.true) in
    short s h (sections_fit s) refl

pub loop-pair-init : goal.loop-pair-init
unfolding sections_fit
loop-pair-init c = (search rules, search rules, refl)

pub pair_at-at-requires : goal.pair_at-at-requires
pair_at-at-requires c =
    let n = counted c.before.before.before.before in
    (omega (arith, n.0), omega arith, omega arith)

pub u16_at-requires : goal.u16_at-requires
u16_at-requires c = omega (arith, c.pair_at-at.ensures.1)

-- the tests from the loop's section on
turn : (c : lts.In-loop tie.the-claims reads.Pre reads.Post goal.the-invariant-loop-pair goal.the-decreases-loop-pair)
    → let s : List ℕ = c.before.before.before.before.before.args.file.now in
    let i : ℕ = c.before.loop-pair.pair in
    let end : ℕ = c.before.loop-pair.end in
    sections_fit s
    ≡ eqb (distance s i + end) (length s)
    && (leb (count s i) (get_or mosts i 0) && in_order s (i + 1) (end + count s i * get_or sizes i 0) (drop (i + 1) (bounds s)))
turn c =
    let s : List ℕ = c.before.before.before.before.before.args.file.now in
    let more : c.before.loop-pair.pair < sections s = rw c.before.before.before.section_count-sections.ensures at c.loop-pair-test.true in
    sym c.before.loop-pair.invariant.2 ∙ in_order_turn s c.before.loop-pair.end c.before.loop-pair.pair more

-- the two numbers of its pair
back : (c : lts.After-u16_at tie.the-claims reads.Pre reads.Post goal.the-invariant-loop-pair goal.the-decreases-loop-pair) → c.u16_at.result ≡ distance c.before.before.before.before.before.before.before.args.file.now c.before.before.before.loop-pair.pair
back c =
    let s : List ℕ = c.before.before.before.before.before.before.before.args.file.now in
    c.u16_at.ensures.0 ∙ ap (le16 s) c.before.pair_at-at.ensures.0

pub returns-then-u16_at-end : goal.returns-then-u16_at-end
returns-then-u16_at-end c =
    let l = c.before.before.before.before in
    let s : List ℕ = l.before.before.before.before.before.args.file.now in
    let e : c.before.u16_at.result ≡ distance s l.before.loop-pair.pair = back c.before.before in
    let apart : distance s l.before.loop-pair.pair + l.before.loop-pair.end ≡ length s → ⊥ = λ q. c.if-u16_at-end.true (omega arith) in
    sym (turn l ∙ fail _ (ne_eqb _ _ apart))

pub overflow_add-at : goal.overflow_add-at
overflow_add-at c = omega (arith, c.before.before.pair_at-at.ensures.1)

pub u16_at-count-requires : goal.u16_at-count-requires
u16_at-count-requires c = omega (arith, c.before.before.pair_at-at.ensures.1)

records : (c : lts.After-u16_at2 tie.the-claims reads.Pre reads.Post goal.the-invariant-loop-pair goal.the-decreases-loop-pair)
    → c.u16_at-count.result ≡ count c.before.before.before.before.before.before.before.before.before.args.file.now c.before.before.before.before.before.loop-pair.pair
records c =
    let s : List ℕ = c.before.before.before.before.before.before.before.before.before.args.file.now in
    c.u16_at-count.ensures.0 ∙ ap (λ (n : ℕ). le16 s (n + 2)) c.before.before.before.pair_at-at.ensures.0

-- the loop's section is one of the tables'
listed : (c : lts.After-u16_at2 tie.the-claims reads.Pre reads.Post goal.the-invariant-loop-pair goal.the-decreases-loop-pair) → c.before.before.before.before.before.loop-pair.pair < 7
listed c = omega (arith, (counted c.before.before.before.before.before.before.before).0, c.before.before.before.before.loop-pair-test.true)

pub offset_bounds-pair : goal.offset_bounds-pair
offset_bounds-pair c = omega (arith, listed c.before.before)

pub bounds-pair : goal.bounds-pair
bounds-pair c = omega (arith, listed c.before.before)

pub returns-then-pair-count : goal.returns-then-pair-count
returns-then-pair-count c =
    let l = c.before.before.before.before.before.before.before.before in
    let s : List ℕ = l.before.before.before.before.before.args.file.now in
    let i : ℕ = l.before.loop-pair.pair in
    let joined : distance s i + l.before.loop-pair.end ≡ length s = omega (arith, back c.before.before.before.before.before.before) in
    let many : get_or mosts i 0 < count s i = rw (records c.before.before.before.before) at c.if-pair-count.true in
    sym (turn l ∙ pass (eq-eqb _ _ joined) (fail _ (lt-leb _ _ many)))

pub offset_bounds-pair-in-loop-pair : goal.offset_bounds-pair-in-loop-pair
offset_bounds-pair-in-loop-pair c = omega (arith, listed c.before.before.before.before.before)

pub bounds-pair-in-loop-pair : goal.bounds-pair-in-loop-pair
bounds-pair-in-loop-pair c = omega (arith, listed c.before.before.before.before.before)

-- a section's bytes are few enough that the sums do not wrap
bytes_le : (c : lts.Else3 tie.the-claims reads.Pre reads.Post goal.the-invariant-loop-pair goal.the-decreases-loop-pair) → c.before.u16_at-count.result * get_or sizes c.before.before.before.before.before.before.loop-pair.pair 0 ≤ 65536 * 66
bytes_le c = mul-le-mul {n₂ = 65536} (omega arith) (size_le c.before.before.before.before.before.before.loop-pair.pair)

pub overflow_mul-end : goal.overflow_mul-end
overflow_mul-end c = omega (arith, bytes_le c.before.before.before)

pub overflow_add-end : goal.overflow_add-end
overflow_add-end c = omega (arith, bytes_le c.before.before.before, back c.before.before.before.before.before.before.before.before)

pub loop-pair-preserved : goal.loop-pair-preserved
loop-pair-preserved c =
    let l = c.before.before.before.before.before.before.before.before.before.before in
    let s : List ℕ = l.before.before.before.before.before.args.file.now in
    let i : ℕ = l.before.loop-pair.pair in
    let joined : distance s i + l.before.loop-pair.end ≡ length s = omega (arith, back c.before.before.before.before.before.before.before.before) in
    let few : count s i ≤ get_or mosts i 0 = rw (records c.before.before.before.before.before.before) at c.if-pair-count.false in
    (omega (arith, l.loop-pair-test.true), omega (arith, bytes_le c.before.before.before), rw (records c.before.before.before.before.before.before) (sym (turn l ∙ pass (eq-eqb _ _ joined) (pass (le-leb _ _ few) refl))))

pub overflow_add-result : goal.overflow_add-result
overflow_add-result c = omega (arith, (counted c.before.before.before.before).0)

pub returns : goal.returns
returns c =
    let s : List ℕ = c.before.before.before.before.before.args.file.now in
    let n = counted c.before.before.before.before in
    let all : c.before.loop-pair.pair ≡ c.before.before.before.section_count-sections.result = omega arith in
    let end : ℕ = c.before.loop-pair.end in
    let told : sections_fit s ≡ eqb (end + tail_size s) (length s) =
    sym c.before.loop-pair.invariant.2 ∙ rw (all, c.before.before.before.section_count-sections.ensures) (in_order_end s end) in
    sym (told ∙ ap (λ (k : ℕ). eqb (end + k) (length s)) n.1)
