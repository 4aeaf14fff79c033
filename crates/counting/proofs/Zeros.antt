-- The trailing zeros of a number that is not 0 are the place of its lowest bit, and the lowest member of a set is that of its first word that is not 0.
use mathlib.Core.Path.{◌≡◌, refl, sym, ap, ◌∙◌}
use mathlib.Core.List.{List}
use mathlib.Core.Bool.{true, false, false≢true}
use Rattle.std.specs.Prelude.{Option, Some, None}
use Prim.Native.Nat.{ℕ, zero, suc, ◌+◌, ◌-◌, ◌*◌, ◌/◌, ◌%◌, ◌^◌, ◌≤◌, ◌<◌}
use native.Mathlib.Decide.{dec_lt}
use native.Mathlib.Nat.{not-suc-le-zero, pow-suc}
use native.Mathlib.Omega.{arith}
use lib.Count.{count_trailing_zeros, under}
use lib.Dec.{eqb}
use lib.ListN.{length, get_or}
use borrow.Author.Tests.{eq-eqb}
use Rattle.places.specs.Sets.{bit, has, lowest}
use Rattle.places.proofs.Bits.{bit_zero}
use Rattle.places.proofs.Sets.{has_below}
use Rattle.places.proofs.Counting.{NonePicked, Least, found, missing, least_is}
use Rattle.counting.proofs.Bits.{bit_zeroth, bit_next, has_at}

-- ---- the lowest bit of a number

-- t is the lowest set bit of n, which has k bits
pub record LowestBit (k n t : ℕ) : Type 0 where
  pub below : t < k
  pub set : bit t n ≡ 1
  pub none_lower : (j : ℕ) → j < t → bit j n ≡ 0

pub trailing_lowest : (k n : ℕ) → 0 < n → n < 2 ^ k → LowestBit k n (count_trailing_zeros k n)
unfolding count_trailing_zeros
trailing_lowest zero n p h = absurd (let z : ⊥ = omega arith in z)
trailing_lowest (suc k) n p h =
    let l : n < 2 ^ k * 2 = rw pow-suc at h in
    go (n % 2) refl (λ e. trailing_lowest k (n / 2) (omega arith) (omega arith))
  where
    lower : (t : ℕ) → n % 2 ≡ 0 → ((j : ℕ) → j < t → bit j (n / 2) ≡ 0) → (j : ℕ) → j < suc t → bit j n ≡ 0
    lower t e h zero l = bit_zeroth n ∙ e
    lower t e h (suc j) l = bit_next j n ∙ h j (omega arith)

    go : (r : ℕ) → n % 2 ≡ r → (n % 2 ≡ 0 → LowestBit k (n / 2) (count_trailing_zeros k (n / 2))) → LowestBit (suc k) n (under r (count_trailing_zeros k (n / 2)))
    go zero e half =
        let t : ℕ = count_trailing_zeros k (n / 2) in
        record { below = omega (arith, (half e).below); set = bit_next t n ∙ (half e).set; none_lower = lower t e (half e).none_lower }
    go (suc r) e half = record { below = omega arith; set = bit_zeroth n ∙ omega arith; none_lower = λ j l. absurd (not-suc-le-zero l) }

-- ---- the lowest member of a set

-- a member below which there is none
lowest_is : (s : List ℕ) (p : ℕ) → has s p ≡ true → NonePicked (has s) p → lowest s ≡ Some p
unfolding lowest
lowest_is s p e h = go (least_is (has s) (64 * length s))
  where
    same : (r : ℕ) → has s r ≡ true → NonePicked (has s) r → Dec (r < p) → Dec (p < r) → r ≡ p
    same r m l (yes a) b = absurd (false≢true (sym (h r a) ∙ m))
    same r m l (no a) (yes b) = absurd (false≢true (sym (l p b) ∙ e))
    same r m l (no a) (no b) = omega arith

    go : {o : Option ℕ} → Least (has s) (64 * length s) o → o ≡ Some p
    go (found {p = r} l m n) = ap Some (same r m n (dec_lt r p) (dec_lt p r))
    go (missing n) = absurd (false≢true (sym (n p (has_below s p e)) ∙ e))

-- ---- word by word

-- the first w words are 0
abbrev pub Zeros : List ℕ → ℕ → Type 0
Zeros s w = (i : ℕ) → i < w → get_or s i 0 ≡ 0

zeros_none : (s : List ℕ) (w : ℕ) → Zeros s w → NonePicked (has s) (64 * w)
unfolding has
zeros_none s w z k h = rw (z (k / 64) (omega arith), bit_zero (k % 64))

-- all words of the set are 0
pub lowest_missing : (s : List ℕ) (w : ℕ) → length s ≤ w → Zeros s w → lowest s ≡ None
unfolding lowest
lowest_missing s w i z = go (least_is (has s) (64 * length s))
  where
    go : {o : Option ℕ} → Least (has s) (64 * length s) o → o ≡ None
    go (found {p = r} l m n) = absurd (false≢true (sym (zeros_none s w z r (omega arith)) ∙ m))
    go (missing n) = refl

-- word w is the first that is not 0
pub lowest_word : (s : List ℕ) (w : ℕ) → Zeros s w → 0 < get_or s w 0 → get_or s w 0 < 2 ^ 64 → lowest s ≡ Some (64 * w + count_trailing_zeros 64 (get_or s w 0))
lowest_word s w z p f = lowest_is s (64 * w + t) (has_at s w t low.below ∙ eq-eqb (bit t x) 1 low.set) (λ k l. lower k l (dec_lt k (64 * w)))
  where
    x : ℕ
    x = get_or s w 0

    t : ℕ
    t = count_trailing_zeros 64 x

    low : LowestBit 64 x t
    low = trailing_lowest 64 x p f

    lower : (k : ℕ) → k < 64 * w + t → Dec (k < 64 * w) → has s k ≡ false
    lower k l (yes a) = zeros_none s w z k a
    lower k l (no a) =
        let j : ℕ = k - 64 * w in
        let e : k ≡ 64 * w + j = omega arith in
        ap (has s) e ∙ has_at s w j (omega (arith, low.below)) ∙ ap (λ (b : ℕ). eqb b 1) (low.none_lower j (omega arith))
