-- The ones of a number are a tally of its bits, and a set's members are tallied word by word.
use mathlib.Core.Path.{◌≡◌, refl, sym, ap, ap₂, ◌∙◌}
use mathlib.Core.List.{List}
use mathlib.Core.Bool.{Bool, cond}
use Prim.Native.Nat.{ℕ, zero, suc, ◌+◌, ◌*◌, ◌/◌, ◌%◌, ◌^◌, ◌<◌}
use native.Mathlib.Nat.{add-zero, add-suc, pow-suc}
use native.Mathlib.Omega.{arith}
use lib.Count.{ones, ones_step, ones-le}
use lib.Dec.{eqb}
use lib.ListN.{get_or}
use Rattle.places.specs.Sets.{bit, has, tally}
use Rattle.counting.proofs.Bits.{bit_zeroth, bit_next, has_at}

-- ---- tallies of a predicate

tally_cong : (f g : ℕ → Bool) (n : ℕ) → ((k : ℕ) → k < n → f k ≡ g k) → tally f n ≡ tally g n
unfolding tally
tally_cong f g zero h = refl
tally_cong f g (suc n) h = ap₂ (λ (x : ℕ) (b : Bool). x + cond b 1 0) (tally_cong f g n (λ k l. h k (omega arith))) (h n (omega arith))

-- the numbers below a, and the b numbers from a on, are tallied apart
tally_add : (f : ℕ → Bool) (a b : ℕ) → tally f (a + b) ≡ tally f a + tally (λ k. f (a + k)) b
unfolding tally
tally_add f a zero = rw (add-zero a) (omega arith)
tally_add f a (suc b) = rw add-suc (omega (arith, tally_add f a b))

-- the first number, and those after it
tally_first : (f : ℕ → Bool) (n : ℕ) → tally f (suc n) ≡ cond (f 0) 1 0 + tally (λ k. f (suc k)) n
unfolding tally
tally_first f zero = omega arith
tally_first f (suc n) = omega (arith, tally_first f n)

-- ---- the ones of a number

yes_no_bit : (x : ℕ) → x < 2 → x ≡ cond (eqb x 1) 1 0
yes_no_bit zero h = refl
yes_no_bit (suc zero) h = refl
yes_no_bit (suc (suc x)) h = absurd (let z : ⊥ = omega arith in z)

-- of a number of k bits
pub ones_tally : (k n : ℕ) → n < 2 ^ k → ones n ≡ tally (λ j. eqb (bit j n) 1) k
unfolding tally
ones_tally zero n h = omega (arith, ones-le 0 n h)
ones_tally (suc k) n h =
    let l : n < 2 ^ k * 2 = rw pow-suc at h in
    let low : n % 2 ≡ cond (eqb (bit 0 n) 1) 1 0 = rw bit_zeroth (yes_no_bit (n % 2) (omega arith)) in
    let rest : ones (n / 2) ≡ tally (λ j. eqb (bit (suc j) n) 1) k =
    ones_tally k (n / 2) (omega arith) ∙ tally_cong (λ j. eqb (bit j (n / 2)) 1) (λ j. eqb (bit (suc j) n) 1) k (λ j m. rw bit_next) in
    ones_step n ∙ ap₂ (λ (x y : ℕ). x + y) low rest ∙ sym (tally_first (λ j. eqb (bit j n) 1) k)

-- ---- the members of a set, word by word

pub tally_word : (s : List ℕ) (w : ℕ) → get_or s w 0 < 2 ^ 64 → tally (has s) (64 * (w + 1)) ≡ tally (has s) (64 * w) + ones (get_or s w 0)
tally_word s w h =
    let e : 64 * (w + 1) ≡ 64 * w + 64 = omega arith in
    ap (tally (has s)) e
    ∙ tally_add (has s) (64 * w) 64
    ∙ ap (λ (x : ℕ). tally (has s) (64 * w) + x)
    (tally_cong (λ k. has s (64 * w + k)) (λ k. eqb (bit k (get_or s w 0)) 1) 64 (λ k l. has_at s w k l) ∙ sym (ones_tally 64 (get_or s w 0) h))
