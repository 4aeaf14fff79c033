-- The laws of sets of places, for any number of words. All go by one meaning of `Within`: bit by bit, the first set's is at most the second's.
use mathlib.Core.Path.{◌≡◌, refl, sym, ap, ◌∙◌}
use mathlib.Core.List.{List, [], ◌∷◌}
use mathlib.Core.Bool.{Bool, true, false, ◌&&◌, ◌||◌, not, false≢true}
use mathlib.Core.Logic.{◌↔◌}
use native.Mathlib.Decide.{dec_lt}
use Prim.Native.Nat.{ℕ, zero, suc, ◌+◌, ◌-◌, ◌*◌, ◌/◌, ◌%◌, ◌^◌, ◌≤◌, ◌<◌, max, zero-le}
use native.Mathlib.Nat.{le_refl, le_trans, le_antisymm, le-max_left, le-max_right, max-le, lt_of_lt_of_le, zero-max, max-zero, suc-max-suc, le_of_suc-le-suc, lt_of_not-le}
use native.Mathlib.Omega.{arith}
use lib.Pow.{pow_mono, pow_pos}
use lib.Bits.{bit_or, or_zero_r, or_lt}
use lib.Dec.{eqb, ltb}
use lib.ListN.{length, get_or, length-replicate, get_or-eq_default}
use lib.Seq.{ext_get_or}
use borrow.Author.Tests.{eqb-true, eq-eqb, lt-ltb, le-ltb}
use Rattle.places.specs.Sets.{Words, bit, has, empty, word_of, set_of, single, word_by_word, union, without, difference, within, Within}
use Rattle.places.proofs.Bits.{bit_lt, bit_zero, bit_high, bit_of_or, bit_without, same_bits, or_within, within_or, or_set, without_set, yes_no_set, word_of_lt, bit_word_of}

-- tests that hold in the same cases are equal
same_ltb : (a b c d : ℕ) → (a < b) ↔ (c < d) → ltb a b ≡ ltb c d
same_ltb a b c d e = go (dec_lt a b)
  where
    go : Dec (a < b) → ltb a b ≡ ltb c d
    go (yes h) = lt-ltb a b h ∙ sym (lt-ltb c d (e.0 h))
    go (no g) =
        le-ltb a b (omega arith) ∙ sym (le-ltb c d (le_of_suc-le-suc (lt_of_not-le (λ l. g (e.1 l)))))

-- two bits of which the second is set where the first is
yes_le : {x y : ℕ} → x < 2 → (eqb x 1 ≡ true → eqb y 1 ≡ true) → x ≤ y
yes_le {x} {y} h e = go (dec_lt 0 x)
  where
    go : Dec (0 < x) → x ≤ y
    go (yes l) =
        let one : x ≡ 1 = omega arith in
        omega (arith, eqb-true y 1 (e (eq-eqb x 1 one)))
    go (no g) = omega arith

-- ---- what `Within` means

-- bit k of word w
abbrev pub bit_at : List ℕ → ℕ → ℕ → ℕ
bit_at s w k = bit k (get_or s w 0)

pub and_both : {s t : Bool} → s && t ≡ true → (s ≡ true) × (t ≡ true)
and_both {s = true} e = (refl, e)
and_both {s = false} e = absurd (false≢true e)

both_and : {s t : Bool} → s ≡ true → t ≡ true → s && t ≡ true
both_and {s} {t} p q = ap (λ (u : Bool). u && t) p ∙ q

none_le : (k n : ℕ) → bit k 0 ≤ n
none_le k n = rw (bit_zero k) zero-le

test_bits : (a b : List ℕ) → within a b ≡ true → (w k : ℕ) → bit_at a w k ≤ bit_at b w k
unfolding within
test_bits [] b e w k = none_le k (bit_at b w k)
test_bits (x ∷ a) [] e zero k = or_within x 0 (or_zero_r x ∙ eqb-true x 0 (and_both {s = eqb x 0} e).0) k
test_bits (x ∷ a) [] e (suc w) k = test_bits a [] (and_both {s = eqb x 0} e).1 w k
test_bits (x ∷ a) (y ∷ b) e zero k = or_within x y (eqb-true (bit_or x y) y (and_both {s = eqb (bit_or x y) y} e).0) k
test_bits (x ∷ a) (y ∷ b) e (suc w) k = test_bits a b (and_both {s = eqb (bit_or x y) y} e).1 w k

bits_test : (a b : List ℕ) → ((w k : ℕ) → bit_at a w k ≤ bit_at b w k) → within a b ≡ true
unfolding within
bits_test [] b h = refl
bits_test (x ∷ a) [] h = both_and (eq-eqb x 0 (sym (or_zero_r x) ∙ within_or x 0 (λ k. h 0 k))) (bits_test a [] (λ w k. h (suc w) k))
bits_test (x ∷ a) (y ∷ b) h = both_and (eq-eqb (bit_or x y) y (within_or x y (λ k. h 0 k))) (bits_test a b (λ w k. h (suc w) k))

pub within_bits : {a b : List ℕ} → Within a b → (w k : ℕ) → bit_at a w k ≤ bit_at b w k
within_bits {a} {b} h = test_bits a b h.holds

pub bits_within : {a b : List ℕ} → ((w k : ℕ) → bit_at a w k ≤ bit_at b w k) → Within a b
bits_within {a} {b} h = record { holds = bits_test a b h }

-- ---- the order

pub within_refl : (a : List ℕ) → Within a a
within_refl a = bits_within (λ w k. le_refl (bit_at a w k))

pub within_trans : {a b c : List ℕ} → Within a b → Within b c → Within a c
within_trans h l = bits_within (λ w k. le_trans (within_bits h w k) (within_bits l w k))

-- sets of equally many words
pub within_antisym : {a b : List ℕ} → length a ≡ length b → Within a b → Within b a → a ≡ b
within_antisym {a} {b} e h l =
    ext_get_or 0 a b e (λ w lt. same_bits (get_or a w 0) (get_or b w 0) (λ k. le_antisymm (within_bits h w k) (within_bits l w k)))

empty_word : (n w : ℕ) → ◌≡◌ {A = ℕ} (get_or (empty n) w 0) 0
empty_word zero w = refl
empty_word (suc n) zero = refl
empty_word (suc n) (suc w) = empty_word n w

pub empty_within : (n : ℕ) (a : List ℕ) → Within (empty n) a
empty_within n a = bits_within (λ w k. rw (empty_word n w) (none_le k (bit_at a w k)))

-- ---- word by word

pub word_by_word_at : (f : ℕ → ℕ → ℕ) → f 0 0 ≡ 0 → (a b : List ℕ) (w : ℕ) → get_or (word_by_word f a b) w 0 ≡ f (get_or a w 0) (get_or b w 0)
unfolding word_by_word
word_by_word_at f e [] [] w = sym e
word_by_word_at f e [] (y ∷ b) zero = refl
word_by_word_at f e [] (y ∷ b) (suc w) = word_by_word_at f e [] b w
word_by_word_at f e (x ∷ a) [] zero = refl
word_by_word_at f e (x ∷ a) [] (suc w) = word_by_word_at f e a [] w
word_by_word_at f e (x ∷ a) (y ∷ b) zero = refl
word_by_word_at f e (x ∷ a) (y ∷ b) (suc w) = word_by_word_at f e a b w

pub length_word_by_word : (f : ℕ → ℕ → ℕ) (a b : List ℕ) → length (word_by_word f a b) ≡ max (length a) (length b)
unfolding word_by_word
length_word_by_word f [] [] = refl
length_word_by_word f [] (y ∷ b) = ap suc (length_word_by_word f [] b ∙ zero-max (length b)) ∙ sym (zero-max (suc (length b)))
length_word_by_word f (x ∷ a) [] = ap suc (length_word_by_word f a [] ∙ max-zero (length a)) ∙ sym (max-zero (suc (length a)))
length_word_by_word f (x ∷ a) (y ∷ b) = ap suc (length_word_by_word f a b) ∙ sym (suc-max-suc (length a) (length b))

pub union_word : (a b : List ℕ) (w : ℕ) → get_or (union a b) w 0 ≡ bit_or (get_or a w 0) (get_or b w 0)
unfolding union
union_word a b w = word_by_word_at bit_or refl a b w

pub difference_word : (a b : List ℕ) (w : ℕ) → get_or (difference a b) w 0 ≡ without (get_or a w 0) (get_or b w 0)
unfolding difference
difference_word a b w = word_by_word_at without refl a b w

-- sets of equally many words
pub length_union : {n : ℕ} (a b : List ℕ) → length a ≡ n → length b ≡ n → length (union a b) ≡ n
unfolding union
length_union a b p q = omega (arith, length_word_by_word bit_or a b)

pub length_difference : {n : ℕ} (a b : List ℕ) → length a ≡ n → length b ≡ n → length (difference a b) ≡ n
unfolding difference
length_difference a b p q = omega (arith, length_word_by_word without a b)

-- ---- union: the least upper bound

union_bit : (a b : List ℕ) (w k : ℕ) → bit_at (union a b) w k ≡ max (bit_at a w k) (bit_at b w k)
union_bit a b w k = ap (bit k) (union_word a b w) ∙ bit_of_or k (get_or a w 0) (get_or b w 0)

pub within_union_left : (a b : List ℕ) → Within a (union a b)
within_union_left a b = bits_within (λ w k. rw union_bit (le-max_left _ _))

pub within_union_right : (a b : List ℕ) → Within b (union a b)
within_union_right a b = bits_within (λ w k. rw union_bit (le-max_right _ _))

pub union_least : {a b c : List ℕ} → Within a c → Within b c → Within (union a b) c
union_least h l = bits_within (λ w k. rw union_bit (max-le (within_bits h w k) (within_bits l w k)))

pub union_assoc : (a b c : List ℕ) → union (union a b) c ≡ union a (union b c)
unfolding union
union_assoc a b c =
    within_antisym
    (omega (arith, length_word_by_word bit_or (union a b) c, length_word_by_word bit_or a b, length_word_by_word bit_or a (union b c), length_word_by_word bit_or b c))
    (union_least (union_least (within_union_left a (union b c)) (within_trans (within_union_left b c) right)) (within_trans (within_union_right b c) right))
    (union_least (within_trans (within_union_left a b) left) (union_least (within_trans (within_union_right a b) left) (within_union_right (union a b) c)))
  where
    left : Within (union a b) (union (union a b) c)
    left = within_union_left (union a b) c

    right : Within (union b c) (union a (union b c))
    right = within_union_right a (union b c)

-- the empty set of equally many words adds nothing, on either side
pub empty_union : {n : ℕ} (a : List ℕ) → length a ≡ n → union (empty n) a ≡ a
empty_union {n} a e =
    within_antisym (length_union (empty n) a (length-replicate n 0) e ∙ sym e) (union_least (empty_within n a) (within_refl a)) (within_union_right (empty n) a)

pub union_empty : {n : ℕ} (a : List ℕ) → length a ≡ n → union a (empty n) ≡ a
union_empty {n} a e =
    within_antisym (length_union a (empty n) e (length-replicate n 0) ∙ sym e) (union_least (within_refl a) (empty_within n a)) (within_union_left a (empty n))

-- ---- difference

difference_bit : (a b : List ℕ) (w k : ℕ) → bit_at (difference a b) w k ≡ bit_at a w k - bit_at b w k
difference_bit a b w k = ap (bit k) (difference_word a b w) ∙ bit_without k (get_or a w 0) (get_or b w 0)

pub difference_within : (a b : List ℕ) → Within (difference a b) a
difference_within a b = bits_within (λ w k. omega (arith, difference_bit a b w k))

-- ---- members

pub has_empty : (n p : ℕ) → has (empty n) p ≡ false
unfolding has
has_empty n p = rw (empty_word n (p / 64), bit_zero (p % 64))

pub has_union : (a b : List ℕ) (p : ℕ) → has (union a b) p ≡ has a p || has b p
unfolding has
has_union a b p =
    ap (λ (n : ℕ). eqb n 1) (union_bit a b (p / 64) (p % 64)) ∙ or_set _ _ (bit_lt (p % 64) (get_or a (p / 64) 0)) (bit_lt (p % 64) (get_or b (p / 64) 0))

pub has_difference : (a b : List ℕ) (p : ℕ) → has (difference a b) p ≡ has a p && not (has b p)
unfolding has
has_difference a b p =
    ap (λ (n : ℕ). eqb n 1) (difference_bit a b (p / 64) (p % 64)) ∙ without_set _ _ (bit_lt (p % 64) (get_or a (p / 64) 0)) (bit_lt (p % 64) (get_or b (p / 64) 0))

-- a set of n words has places below 64 · n only
pub has_below : (s : List ℕ) (p : ℕ) → has s p ≡ true → p < 64 * length s
unfolding has
has_below s p e = go (dec_lt p (64 * length s))
  where
    go : Dec (p < 64 * length s) → p < 64 * length s
    go (yes l) = l
    go (no g) =
        let past : length s ≤ p / 64 = omega arith in
        absurd (false≢true (sym (rw (get_or-eq_default s 0 past, bit_zero (p % 64))) ∙ e))

first_word : (x : ℕ) (s : List ℕ) (p : ℕ) → p < 64 → has (x ∷ s) p ≡ eqb (bit p x) 1
unfolding has
first_word x s p h =
    let q : p / 64 ≡ 0 = omega arith in
    let r : p % 64 ≡ p = omega arith in
    rw (q, r)

later_words : (x : ℕ) (s : List ℕ) (p : ℕ) → has (x ∷ s) (64 + p) ≡ has s p
unfolding has
later_words x s p =
    let q : (64 + p) / 64 ≡ suc (p / 64) = omega arith in
    let r : (64 + p) % 64 ≡ p % 64 = omega arith in
    rw (q, r)

-- the members of the set of a predicate: the places below 64 · n that it picks
pub has_set_of : (n : ℕ) (f : ℕ → Bool) (p : ℕ) → has (set_of n f) p ≡ ltb p (64 * n) && f p
unfolding set_of
has_set_of zero f p = has_empty 0 p ∙ sym (rw (le-ltb p (64 * 0) (omega arith)))
has_set_of (suc n) f p = go (has_set_of n (λ q. f (64 + q))) (dec_lt p 64)
  where
    size_is : 64 * suc n ≡ 64 + 64 * n
    size_is = omega arith

    go : ((q : ℕ) → has (set_of n (λ q. f (64 + q))) q ≡ ltb q (64 * n) && f (64 + q)) → Dec (p < 64) → has (set_of (suc n) f) p ≡ ltb p (64 * suc n) && f p
    go later (yes l) =
        first_word (word_of f 64) (set_of n (λ q. f (64 + q))) p l
        ∙ ap (λ (m : ℕ). eqb m 1) (bit_word_of f 64 p l)
        ∙ yes_no_set (f p)
        ∙ sym (rw (lt-ltb p (64 * suc n) (omega arith)))
    go later (no g) =
        let q : ℕ = p - 64 in
        let e : p ≡ 64 + q = omega arith in
        rw e
        (later_words (word_of f 64) (set_of n (λ q. f (64 + q))) q
        ∙ later q
        ∙ ap (λ (t : Bool). t && f (64 + q)) (same_ltb q (64 * n) (64 + q) (64 * suc n) (λ h. omega arith, λ h. omega arith)))

pub has_single : (n p q : ℕ) → has (single n p) q ≡ ltb q (64 * n) && eqb q p
unfolding single
has_single n p q = has_set_of n (λ q. eqb q p) q

-- a set of 64-bit words is within another where each of its members is one of the other's, and only there
pub within_members : {a b : List ℕ} → Words a → Within a b ↔ ((p : ℕ) → has a p ≡ true → has b p ≡ true)
unfolding has
within_members {a} {b} words = (λ h p e. up h p e, λ h. bits_within (λ w k. down h w k (dec_lt k 64)))
  where
    up : Within a b → (p : ℕ) → has a p ≡ true → has b p ≡ true
    up h p e =
        let one : bit_at a (p / 64) (p % 64) ≡ 1 = eqb-true _ 1 e in
        eq-eqb (bit_at b (p / 64) (p % 64)) 1 (omega (arith, within_bits h (p / 64) (p % 64), bit_lt (p % 64) (get_or b (p / 64) 0)))

    down : ((p : ℕ) → has a p ≡ true → has b p ≡ true) → (w k : ℕ) → Dec (k < 64) → bit_at a w k ≤ bit_at b w k
    down h w k (yes l) =
        let p : ℕ = 64 * w + k in
        let q : p / 64 ≡ w = omega arith in
        let r : p % 64 ≡ k = omega arith in
        yes_le (bit_lt k (get_or a w 0)) (rw (q, r) at (h p))
    down h w k (no g) =
        let past : 64 ≤ k = omega arith in
        rw (bit_high k (get_or a w 0) (lt_of_lt_of_le (words.fits w) (pow_mono past))) zero-le

-- ---- numbers of words, and words of 64 bits

pub length_set_of : (n : ℕ) (f : ℕ → Bool) → length (set_of n f) ≡ n
unfolding set_of
length_set_of zero f = refl
length_set_of (suc n) f = ap suc (length_set_of n (λ p. f (64 + p)))

pub length_single : (n p : ℕ) → length (single n p) ≡ n
unfolding single
length_single n p = length_set_of n (λ q. eqb q p)

pub words_union : {a b : List ℕ} → Words a → Words b → Words (union a b)
words_union {a} {b} h l = record { fits = λ w. rw union_word (or_lt 64 (get_or a w 0) (get_or b w 0) (h.fits w) (l.fits w)) }

pub words_set_of : (n : ℕ) (f : ℕ → Bool) → Words (set_of n f)
unfolding set_of
words_set_of n f = record { fits = go n f }
  where
    go : (n : ℕ) (f : ℕ → Bool) (w : ℕ) → get_or (set_of n f) w 0 < 2 ^ 64
    go zero f w = pow_pos 64
    go (suc n) f zero = word_of_lt f 64
    go (suc n) f (suc w) = go n (λ p. f (64 + p)) w

-- ---- a set is known by its members

-- sets of equally many 64-bit words
pub same_members : {a b : List ℕ} → length a ≡ length b → Words a → Words b → ((p : ℕ) → has a p ≡ has b p) → a ≡ b
same_members e h l same =
    within_antisym e ((within_members h).1 (λ p q. sym (same p) ∙ q)) ((within_members l).1 (λ p q. same p ∙ q))

-- the set of a set's own members
pub set_of_has : (a : List ℕ) → Words a → set_of (length a) (has a) ≡ a
set_of_has a h =
    same_members (length_set_of (length a) (has a)) (words_set_of (length a) (has a)) h (λ p. has_set_of (length a) (has a) p ∙ inside p (has a p) refl)
  where
    inside : (p : ℕ) (t : Bool) → has a p ≡ t → ltb p (64 * length a) && t ≡ t
    inside p true e = rw (lt-ltb p (64 * length a) (has_below a p e))
    inside p false e = none (ltb p (64 * length a))
      where
        none : (t : Bool) → t && false ≡ false
        none true = refl
        none false = refl

-- the union of the sets of two predicates
pub union_set_of : (n : ℕ) (f g : ℕ → Bool) → union (set_of n f) (set_of n g) ≡ set_of n (λ p. f p || g p)
union_set_of n f g =
    same_members
    (length_union (set_of n f) (set_of n g) (length_set_of n f) (length_set_of n g) ∙ sym (length_set_of n (λ p. f p || g p)))
    (words_union (words_set_of n f) (words_set_of n g))
    (words_set_of n (λ p. f p || g p))
    (λ p.
    has_union (set_of n f) (set_of n g) p
    ∙ rw (has_set_of n f p, has_set_of n g p, has_set_of n (λ p. f p || g p) p) (either (ltb p (64 * n)) (f p) (g p)))
  where
    either : (t x y : Bool) → t && x || t && y ≡ t && (x || y)
    either true x y = refl
    either false x y = refl
