-- The sets of ranges and regions.
use mathlib.Core.Path.{◌≡◌, refl, ◌∙◌}
use mathlib.Core.Bool.{Bool, true, false, ◌&&◌, cond}
use Prim.Native.Nat.{ℕ, zero, suc, ◌+◌, ◌*◌, ◌/◌, ◌%◌, ◌^◌, ◌≤◌, ◌<◌}
use native.Mathlib.Nat.{add-zero, add-suc, add_comm, add-mul, mul-zero, mul-suc, suc-mul, one-mul, mul-le-mul_right}
use native.Mathlib.Numerals.{add-one}
use native.Mathlib.Omega.{arith}
use lib.Dec.{ltb, leb, lit<}
use lib.Pow.{pow-add}
use lib.ListN.{length, set}
use borrow.Author.Tests.{le-leb, lt-leb}
use Rattle.places.specs.Sets.{has, empty, word_of}
use Rattle.places.proofs.Sets.{has_set_of, length_set_of}
use Rattle.places.proofs.Shapes.{word_of_cong, word_of_none, set_of_cong, in_word, one_word}
use Rattle.regions.specs.declared.Range.{Range}
use Rattle.regions.specs.declared.Region.{Region}
use Rattle.regions.specs.Regions.{in_range, in_region, region_set, repeated}

-- ---- a range

pub in_range_yes : (r : Range) (n : ℕ) → r.first ≤ n → n ≤ r.last → in_range r n ≡ true
in_range_yes r n h l = rw (le-leb r.first n h, le-leb n r.last l)

pub below_range : (r : Range) (n : ℕ) → n < r.first → in_range r n ≡ false
below_range r n h = rw (lt-leb r.first n h)

pub above_range : (r : Range) (n : ℕ) → r.last < n → in_range r n ≡ false
above_range r n h = rw (lt-leb n r.last h) (and_no (leb r.first n))
  where
    and_no : (b : Bool) → b && false ≡ false
    and_no true = refl
    and_no false = refl

-- ---- a region

pick_le : (b : Bool) (x : ℕ) → cond b x 0 ≤ x
pick_le true x = omega arith
pick_le false x = omega arith

-- a pattern of `width` bits, repeated n times, takes width · n bits
pub repeated_lt : (pattern width : ℕ) (range : Range) (n : ℕ) → pattern < 2 ^ width → repeated pattern width range n < 2 ^ (width * n)
unfolding repeated
repeated_lt pattern width range zero h = rw mul-zero (lit< tt)
repeated_lt pattern width range (suc n) h =
    let whole : 2 ^ (width * suc n) ≡ 2 ^ width * 2 ^ (width * n) = rw (mul-suc width n, add_comm (width * n) width) (pow-add 2 width (width * n)) in
    rw whole
    (omega
    (arith, repeated_lt pattern width range n h, pick_le (in_range range n) (pattern * 2 ^ (width * n)), mul-le-mul_right (2 ^ (width * n)) h, suc-mul pattern (2 ^ (width * n))))

-- one position more, in the range or not
pub repeated_turn : (pattern width : ℕ) (range : Range) (i : ℕ) (b : Bool) → in_range range i ≡ b
    → repeated pattern width range (i + 1) ≡ repeated pattern width range i + cond b (pattern * 2 ^ (width * i)) 0
unfolding repeated
repeated_turn pattern width range i b e = rw (add-one, ← e)

-- one bit at each number of the range
pub bits_repeated : (range : Range) (n : ℕ) → repeated 1 1 range n ≡ word_of (in_range range) n
unfolding repeated word_of
bits_repeated range zero = refl
bits_repeated range (suc n) = rw (bits_repeated range n, one-mul (2 ^ (1 * n)), one-mul n)

pick_mul : (b : Bool) (x y : ℕ) → cond b x 0 * y ≡ cond b (x * y) 0
pick_mul true x y = refl
pick_mul false x y = omega arith

-- the bits of a word from m on are those of the predicate moved down by m
word_of_add : (f : ℕ → Bool) (m n : ℕ) → word_of f (m + n) ≡ word_of f m + word_of (λ k. f (m + k)) n * 2 ^ m
unfolding word_of
word_of_add f m zero = rw add-zero (omega arith)
word_of_add f m (suc n) =
    rw (add-suc m n, word_of_add f m n, add_comm m n, pow-add 2 n m, ← pick_mul (f (n + m)) (2 ^ n) (2 ^ m), add_comm n m)
    (omega (arith, add-mul (word_of (λ k. f (m + k)) n) (cond (f (m + n)) (2 ^ n) 0) (2 ^ m)))

word_of_and : (b : Bool) (g : ℕ → Bool) (n : ℕ) → word_of (λ k. b && g k) n ≡ cond b (word_of g n) 0
word_of_and true g n = refl
word_of_and false g n = word_of_none n

-- the bits of a table's word at the owners and lines of two ranges
abbrev pub in_rows : Range → Range → ℕ → Bool
in_rows owners lines k = in_range owners (k / 8) && in_range lines (k % 8)

-- rows of lines, one for each owner of the range
pub rows_repeated : (owners lines : Range) (n : ℕ) → repeated (word_of (in_range lines) 8) 8 owners n ≡ word_of (in_rows owners lines) (8 * n)
unfolding repeated
rows_repeated owners lines zero = unfold word_of in refl
rows_repeated owners lines (suc n) =
    let e : 8 * suc n ≡ 8 * n + 8 = omega arith in
    rw (e, word_of_add (in_rows owners lines) (8 * n) 8, rows_repeated owners lines n, row, pick_mul (in_range owners n) (word_of (in_range lines) 8) (2 ^ (8 * n)))
  where
    bits : (k : ℕ) → k < 8 → in_rows owners lines (8 * n + k) ≡ in_range owners n && in_range lines k
    bits k l =
        let q : (8 * n + k) / 8 ≡ n = omega arith in
        let r : (8 * n + k) % 8 ≡ k = omega arith in
        rw (q, r)

    row : word_of (λ k. in_rows owners lines (8 * n + k)) 8 ≡ cond (in_range owners n) (word_of (in_range lines) 8) 0
    row =
        word_of_cong (λ k. in_rows owners lines (8 * n + k)) (λ k. in_range owners n && in_range lines k) 8 bits
        ∙ word_of_and (in_range owners n) (in_range lines) 8

pub region_word : (n : ℕ) (r : Region) → r.table < n → region_set n r ≡ set (empty n) r.table (word_of (in_rows r.owners r.lines) 64)
unfolding region_set in_region
region_word n r h =
    set_of_cong (in_region r) (in_word r.table (in_rows r.owners r.lines)) n (λ p l. split p)
    ∙ one_word n r.table (in_rows r.owners r.lines) h
  where
    split : (p : ℕ) → in_region r p ≡ in_word r.table (in_rows r.owners r.lines) p
    split p =
        let q : p % 64 / 8 ≡ p / 8 % 8 = omega arith in
        let e : p % 64 % 8 ≡ p % 8 = omega arith in
        rw (q, e)

-- the members of a region: the places of n words that it holds
pub has_region : (n : ℕ) (r : Region) (p : ℕ) → has (region_set n r) p ≡ ltb p (64 * n) && in_region r p
unfolding region_set
has_region n r p = has_set_of n (in_region r) p

pub length_region : (n : ℕ) (r : Region) → length (region_set n r) ≡ n
unfolding region_set
length_region n r = length_set_of n (in_region r)
