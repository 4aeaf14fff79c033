-- The bits of one word: of or, and, exclusive or, and of a word made from a predicate.
use mathlib.Core.Path.{◌≡◌, refl, sym, ap, ◌∙◌, subst}
use mathlib.Core.Bool.{Bool, true, false, ◌&&◌, ◌||◌, not, cond}
use mathlib.Core.Logic.{⊎_elim}
use Prim.Native.Nat.{ℕ, zero, suc, ◌+◌, ◌-◌, ◌*◌, ◌/◌, ◌%◌, ◌^◌, ◌≤◌, ◌<◌, min, max}
use native.Mathlib.Nat.{mod-lt, zero-lt-suc, le-max_left, max-eq_right, not-suc-le-zero, le_of_suc-le-suc, zero-div, zero-min, div-eq_of_lt, mod-eq_of_lt, eq-or-lt_of_le, pow-suc, pow-succ', mul_assoc, add-mul-div_right, add-mul-mod_self_right, add_comm}
use native.Mathlib.Omega.{arith}
use lib.Arith.{bin_ind, digits_mod, digits_div}
use lib.Pow.{shr-shr, pow_pos, pow-add}
use lib.Bits.{bit_or, or_shr, or_step, bit_and, and_shr, and_step, bit_xor, xor_shr, xor_step, differ}
use lib.Dec.{eqb, lit<}
use Rattle.places.specs.Sets.{bit, word_of, without}

pub bit_lt : (k n : ℕ) → bit k n < 2
bit_lt k n = mod-lt (n / 2 ^ k) (zero-lt-suc 1)

-- the number 0 has no bits
pub bit_zero : (k : ℕ) → bit k 0 ≡ 0
bit_zero k = ap (λ (n : ℕ). n % 2) (zero-div (2 ^ k))

-- a bit past a number's width is 0
pub bit_high : (k n : ℕ) → n < 2 ^ k → bit k n ≡ 0
bit_high k n h = ap (λ (m : ℕ). m % 2) (div-eq_of_lt h)

-- ---- the operations on words, bit by bit

pub bit_of_or : (k a b : ℕ) → bit k (bit_or a b) ≡ max (bit k a) (bit k b)
bit_of_or k a b =
    let l : max (bit k a) (bit k b) < 2 = omega (arith, bit_lt k a, bit_lt k b) in
    ap (λ (x : ℕ). x % 2) (or_shr a b k ∙ or_step (a / 2 ^ k) (b / 2 ^ k)) ∙ digits_mod (bit_or (a / 2 ^ k / 2) (b / 2 ^ k / 2)) l

bit_of_and : (k a b : ℕ) → bit k (bit_and a b) ≡ min (bit k a) (bit k b)
bit_of_and k a b =
    let l : min (bit k a) (bit k b) < 2 = omega (arith, bit_lt k a) in
    ap (λ (x : ℕ). x % 2) (and_shr a b k ∙ and_step (a / 2 ^ k) (b / 2 ^ k)) ∙ digits_mod (bit_and (a / 2 ^ k / 2) (b / 2 ^ k / 2)) l

differ_lt : (x y : ℕ) → x < 2 → y < 2 → differ x y < 2
differ_lt zero y h l = l
differ_lt (suc x) zero h l = h
differ_lt (suc x) (suc y) h l = differ_lt x y (omega arith) (omega arith)

bit_of_xor : (k a b : ℕ) → bit k (bit_xor a b) ≡ differ (bit k a) (bit k b)
bit_of_xor k a b =
    ap (λ (x : ℕ). x % 2) (xor_shr a b k ∙ xor_step (a / 2 ^ k) (b / 2 ^ k))
    ∙ digits_mod (bit_xor (a / 2 ^ k / 2) (b / 2 ^ k / 2)) (differ_lt (bit k a) (bit k b) (bit_lt k a) (bit_lt k b))

differ_min : (x y : ℕ) → x < 2 → y < 2 → differ x (min x y) ≡ x - y
differ_min zero y h l = zero-min y ∙ omega arith
differ_min (suc zero) zero h l = refl
differ_min (suc zero) (suc zero) h l = refl
differ_min (suc zero) (suc (suc y)) h l = absurd (not-suc-le-zero (le_of_suc-le-suc (le_of_suc-le-suc l)))
differ_min (suc (suc x)) y h l = absurd (not-suc-le-zero (le_of_suc-le-suc (le_of_suc-le-suc h)))

pub bit_without : (k a b : ℕ) → bit k (without a b) ≡ bit k a - bit k b
bit_without k a b =
    bit_of_xor k a (bit_and a b) ∙ ap (differ (bit k a)) (bit_of_and k a b) ∙ differ_min (bit k a) (bit k b) (bit_lt k a) (bit_lt k b)

-- ---- numbers with the same bits are equal

bit_half : (k n : ℕ) → bit k (n / 2) ≡ bit (1 + k) n
bit_half k n = ap (λ (x : ℕ). x % 2) (shr-shr n 1 k)

bit_low : (n : ℕ) → bit 0 n ≡ n % 2
bit_low n = ap (λ (x : ℕ). x % 2) (omega arith)

pub same_bits : (a b : ℕ) → ((k : ℕ) → bit k a ≡ bit k b) → a ≡ b
same_bits a =
    bin_ind (λ (n : ℕ). (b : ℕ) → ((k : ℕ) → bit k n ≡ bit k b) → n ≡ b)
    (bin_ind (λ (n : ℕ). ((k : ℕ) → bit k 0 ≡ bit k n) → 0 ≡ n) (λ h. refl) (λ n ih h.
    let r : 0 ≡ n / 2 = ih (λ k. bit_half k 0 ∙ h (1 + k) ∙ sym (bit_half k n)) in
    let l : n % 2 ≡ 0 = sym (bit_low n) ∙ sym (h 0) in
    omega arith))
    (λ n ih b h.
    let r : n / 2 ≡ b / 2 = ih (b / 2) (λ k. bit_half k n ∙ h (1 + k) ∙ sym (bit_half k b)) in
    let l : n % 2 ≡ b % 2 = sym (bit_low n) ∙ h 0 ∙ bit_low b in
    omega arith)
    a

-- ---- one word within another

pub or_within : (x y : ℕ) → bit_or x y ≡ y → (k : ℕ) → bit k x ≤ bit k y
or_within x y e k = subst (λ (n : ℕ). bit k x ≤ n) (sym (bit_of_or k x y) ∙ ap (bit k) e) (le-max_left (bit k x) (bit k y))

pub within_or : (x y : ℕ) → ((k : ℕ) → bit k x ≤ bit k y) → bit_or x y ≡ y
within_or x y h = same_bits (bit_or x y) y (λ k. bit_of_or k x y ∙ max-eq_right (h k))

-- ---- 0 and 1 as no and yes

bit_case : (x : ℕ) → x < 2 → (P : ℕ → Type 0) → P 0 → P 1 → P x
bit_case zero h P p q = p
bit_case (suc zero) h P p q = q
bit_case (suc (suc x)) h P p q = absurd (not-suc-le-zero (le_of_suc-le-suc (le_of_suc-le-suc h)))

pub or_set : (x y : ℕ) → x < 2 → y < 2 → eqb (max x y) 1 ≡ eqb x 1 || eqb y 1
or_set x y h l =
    bit_case x h (λ x. eqb (max x y) 1 ≡ eqb x 1 || eqb y 1)
    (bit_case y l (λ y. eqb (max 0 y) 1 ≡ eqb 0 1 || eqb y 1) refl refl)
    (bit_case y l (λ y. eqb (max 1 y) 1 ≡ eqb 1 1 || eqb y 1) refl refl)

pub without_set : (x y : ℕ) → x < 2 → y < 2 → eqb (x - y) 1 ≡ eqb x 1 && not (eqb y 1)
without_set x y h l =
    bit_case x h (λ x. eqb (x - y) 1 ≡ eqb x 1 && not (eqb y 1))
    (bit_case y l (λ y. eqb (0 - y) 1 ≡ eqb 0 1 && not (eqb y 1)) refl refl)
    (bit_case y l (λ y. eqb (1 - y) 1 ≡ eqb 1 1 && not (eqb y 1)) refl refl)

-- ---- the word of a predicate

abbrev pub yes_no : Bool → ℕ
yes_no b = cond b 1 0

pick_is : (b : Bool) (k : ℕ) → cond b (2 ^ k) 0 ≡ yes_no b * 2 ^ k
pick_is true k = omega arith
pick_is false k = omega arith

yes_no_lt : (b : Bool) → yes_no b < 2
yes_no_lt true = lit< tt
yes_no_lt false = lit< tt

pick_le : (b : Bool) (k : ℕ) → cond b (2 ^ k) 0 ≤ 2 ^ k
pick_le true k = omega arith
pick_le false k = omega arith

pub word_of_lt : (f : ℕ → Bool) (n : ℕ) → word_of f n < 2 ^ n
unfolding word_of
word_of_lt f zero = lit< tt
word_of_lt f (suc n) = rw pow-suc (omega (arith, word_of_lt f n, pick_le (f n) n))

-- a multiple of a higher power changes no bit
bit_below : (x c n k : ℕ) → k < n → bit k (x + c * 2 ^ n) ≡ bit k x
bit_below x c n k h =
    let j : ℕ = n - suc k in
    let e : n ≡ j + suc k = omega arith in
    let q : c * 2 ^ n ≡ c * 2 ^ j * 2 * 2 ^ k = ap (λ (m : ℕ). c * 2 ^ m) e ∙ rw (pow-add, pow-succ') (simp mul_assoc) in
    ap (λ (m : ℕ). bit k (x + m)) q ∙ ap (λ (m : ℕ). m % 2) (add-mul-div_right x (c * 2 ^ j * 2) (pow_pos k)) ∙ add-mul-mod_self_right (x / 2 ^ k) (c * 2 ^ j) 2

bit_top : (x c n : ℕ) → x < 2 ^ n → c < 2 → bit n (x + c * 2 ^ n) ≡ c
bit_top x c n h l = ap (bit n) (add_comm x (c * 2 ^ n)) ∙ ap (λ (m : ℕ). m % 2) (digits_div c h) ∙ mod-eq_of_lt l

pub bit_word_of : (f : ℕ → Bool) (n k : ℕ) → k < n → bit k (word_of f n) ≡ yes_no (f k)
unfolding word_of
bit_word_of f zero k h = absurd (not-suc-le-zero h)
bit_word_of f (suc n) k h =
    ap (λ (m : ℕ). bit k (word_of f n + m)) (pick_is (f n) n)
    ∙ ⊎_elim
    (λ (e : k ≡ n). rw e (bit_top (word_of f n) (yes_no (f n)) n (word_of_lt f n) (yes_no_lt (f n))))
    (λ (l : k < n). bit_below (word_of f n) (yes_no (f n)) n k l ∙ bit_word_of f n k l)
    (eq-or-lt_of_le (le_of_suc-le-suc h))

pub yes_no_set : (b : Bool) → eqb (yes_no b) 1 ≡ b
yes_no_set true = refl
yes_no_set false = refl
