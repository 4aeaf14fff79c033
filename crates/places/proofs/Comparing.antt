-- How many words a comparison looks at: the laws that specs/Claims.antt states, and the two ends of the loop that compares.
use mathlib.Core.Path.{◌≡◌, refl, sym, ap, ◌∙◌}
use mathlib.Core.List.{List}
use mathlib.Core.Bool.{Bool, true, false, not, true≢false, false≢true}
use Rattle.std.specs.Prelude.{Option, Some}
use mathlib.Core.Logic.{◌↔◌}
use native.Mathlib.Decide.{dec_lt}
use Prim.Native.Nat.{ℕ, suc, ◌+◌, ◌-◌, ◌*◌, ◌/◌, ◌%◌, ◌≤◌, ◌<◌, zero-le}
use native.Mathlib.Nat.{lt_of_lt_of_le}
use native.Mathlib.Omega.{arith}
use lib.Pow.{pow_mono}
use lib.Dec.{eqb}
use lib.ListN.{length, get_or, get_or-eq_default}
use borrow.Author.Tests.{eq-eqb, ne_eqb, eqb-true}
use Rattle.places.specs.Sets.{Words, bit, has, without, difference, within, lowest, misses, up_to_and_with, looked_at}
use Rattle.places.specs.Claims.{SameWords, EndsEarly}
use Rattle.places.proofs.Bits.{bit_lt, bit_zero, bit_high, bit_without, same_bits}
use Rattle.places.proofs.Sets.{bit_at, and_both, within_bits, bits_within, difference_word, has_difference, has_below}
use Rattle.places.proofs.Counting.{NonePicked, Least, found, missing, least_is, least_found, no_least, lowest_some}

-- ---- one word

-- no bit of x is missing in y, bit by bit
none_lacking : (x y : ℕ) → (without x y ≡ 0) ↔ ((k : ℕ) → bit k x ≤ bit k y)
none_lacking x y = (up, λ h. same_bits (without x y) 0 (down h))
  where
    up : without x y ≡ 0 → (k : ℕ) → bit k x ≤ bit k y
    up e k =
        let z : bit k x - bit k y ≡ 0 = sym (bit_without k x y) ∙ ap (bit k) e ∙ bit_zero k in
        omega arith

    down : ((k : ℕ) → bit k x ≤ bit k y) → (k : ℕ) → bit k (without x y) ≡ bit k 0
    down h k =
        let z : bit k x - bit k y ≡ 0 = omega (arith, h k) in
        bit_without k x y ∙ z ∙ sym (bit_zero k)

-- a word with a member is not 0
member_word : (s : List ℕ) (p : ℕ) → has s p ≡ true → get_or s (p / 64) 0 ≡ 0 → ⊥
unfolding has
member_word s p e z = false≢true (sym (rw (z, bit_zero (p % 64))) ∙ e)

-- the bit of a place that is no member
unset_bit : (s : List ℕ) (w k : ℕ) → k < 64 → has s (64 * w + k) ≡ false → bit_at s w k ≡ 0
unfolding has
unset_bit s w k l e = go (dec_lt 0 (bit_at s w k))
  where
    go : Dec (0 < bit_at s w k) → bit_at s w k ≡ 0
    go (yes h) =
        let q : (64 * w + k) / 64 ≡ w = omega arith in
        let r : (64 * w + k) % 64 ≡ k = omega arith in
        let one : bit_at s w k ≡ 1 = omega (arith, bit_lt k (get_or s w 0)) in
        absurd (true≢false (sym (eq-eqb (bit_at s w k) 1 one) ∙ (rw (q, r) at e)))
    go (no g) = omega arith

module _ (a b : List ℕ) where
  -- the test of the loop
  pub misses_word : (w : ℕ) → misses a b w ≡ not (eqb (without (get_or a w 0) (get_or b w 0)) 0)
  misses_word w = rw (difference_word a b w)

  none_bits : (w : ℕ) → (misses a b w ≡ false) ↔ ((k : ℕ) → bit_at a w k ≤ bit_at b w k)
  none_bits w = (
    λ e. (none_lacking (get_or a w 0) (get_or b w 0)).0 (eqb-true _ _ (held _ (sym (misses_word w) ∙ e))),
    λ h. misses_word w ∙ ap not (eq-eqb _ _ ((none_lacking (get_or a w 0) (get_or b w 0)).1 h)),
  )
    where
      held : (t : Bool) → not t ≡ false → t ≡ true
      held true e = refl
      held false e = absurd (true≢false e)

  -- a set that lies within another misses nothing, past its last word neither
  within_misses : within a b ≡ true → (w : ℕ) → misses a b w ≡ false
  within_misses e w = (none_bits w).1 (within_bits (record { holds = e }) w)

  -- one word with a missing place is enough
  pub misses_outside : (w : ℕ) → misses a b w ≡ true → within a b ≡ false
  misses_outside w m = go (within a b) refl
    where
      go : (t : Bool) → within a b ≡ t → t ≡ false
      go true e = absurd (true≢false (sym m ∙ within_misses e w))
      go false e = refl

  misses_within : NonePicked (misses a b) (length a) → within a b ≡ true
  misses_within h = (bits_within (λ w k. at w k (dec_lt w (length a)))).holds
    where
      at : (w k : ℕ) → Dec (w < length a) → bit_at a w k ≤ bit_at b w k
      at w k (yes l) = (none_bits w).0 (h w l) k
      at w k (no g) =
          let past : length a ≤ w = omega arith in
          rw (get_or-eq_default a 0 past, bit_zero k) zero-le

  -- ---- the two ends of the loop

  -- at the first word with a missing place
  pub ends_at : (w : ℕ) → w < length a → misses a b w ≡ true → NonePicked (misses a b) w → (within a b ≡ false) × (looked_at a b ≡ suc w)
  unfolding looked_at
  ends_at w l m h = (misses_outside w m, ap (λ (o : Option ℕ). up_to_and_with o (length a)) (least_found (misses a b) (length a) w l m h))

  -- past the last word
  pub ends_past : NonePicked (misses a b) (length a) → (within a b ≡ true) × (looked_at a b ≡ length a)
  unfolding looked_at
  ends_past h = (misses_within h, ap (λ (o : Option ℕ). up_to_and_with o (length a)) (no_least (misses a b) (length a) h))

  -- ---- the word of the lowest missing place

  lowest_word : Words a → (p : ℕ) → lowest (difference a b) ≡ Some p → (p / 64 < length a) × (misses a b (p / 64) ≡ true) × NonePicked (misses a b) (p / 64)
  lowest_word words p e = (below, there, before)
    where
      is : (has (difference a b) p ≡ true) × ((q : ℕ) → q < p → has (difference a b) q ≡ false)
      is = lowest_some (difference a b) p e

      below : p / 64 < length a
      below = omega (arith, has_below a p (and_both (sym (has_difference a b p) ∙ is.0)).0)

      there : misses a b (p / 64) ≡ true
      there = ap not (ne_eqb (get_or (difference a b) (p / 64) 0) 0 (λ z. member_word (difference a b) p is.0 z))

      bits : (w k : ℕ) → w < p / 64 → Dec (k < 64) → bit_at (difference a b) w k ≡ bit k 0
      bits w k h (yes l) = unset_bit (difference a b) w k l (is.1 (64 * w + k) (omega arith)) ∙ sym (bit_zero k)
      bits w k h (no g) =
          let past : 64 ≤ k = omega arith in
          let zeros : bit_at a w k ≡ 0 = bit_high k (get_or a w 0) (lt_of_lt_of_le (words.fits w) (pow_mono past)) in
          let gone : bit_at a w k - bit_at b w k ≡ 0 = omega arith in
          ap (bit k) (difference_word a b w) ∙ bit_without k (get_or a w 0) (get_or b w 0) ∙ gone ∙ sym (bit_zero k)

      before : NonePicked (misses a b) (p / 64)
      before w h = ap not (eq-eqb _ 0 (same_bits (get_or (difference a b) w 0) 0 (λ k. bits w k h (dec_lt k 64))))

-- ---- the laws

pub ends_early : (a b : List ℕ) → EndsEarly a b
ends_early a b = go (least_is (misses a b) (length a))
  where
    there : Words a → (p : ℕ) → lowest (difference a b) ≡ Some p → looked_at a b ≡ suc (p / 64)
    there words p e =
        let w = lowest_word a b words p e in
        (ends_at a b (p / 64) w.0 w.1 w.2).1

    -- sets that agree in a word miss the same there
    same : (a' b' : List ℕ) (n : ℕ) → SameWords n a b a' b' → (w : ℕ) → w < n → misses a' b' w ≡ misses a b w
    same a' b' n h w l = misses_word a' b' w ∙ sym (misses_word a b w ∙ rw (h.first w l, h.second w l))

    go : {o : Option ℕ} → Least (misses a b) (length a) o → EndsEarly a b
    go (found {p = w} l m h) =
        let e : (within a b ≡ false) × (looked_at a b ≡ suc w) = ends_at a b w l m h in
        let v : looked_at a b - 1 ≡ w = omega (arith, e.1) in
        record {
          at_most = omega (arith, e.1);
          all_words = λ q. absurd (false≢true (sym e.0 ∙ q));
          last_word = λ q. (omega (arith, e.1), rw v (record { missing = m; none_before = h }));
          stops_short = λ q. e.0;
          decides = rw v (e.0 ∙ sym (ap not m));
          looks_no_further = λ a' b' k s.
              let e' = ends_at a' b' w (omega arith) (same a' b' _ s w (omega (arith, e.1)) ∙ m) (λ u t. same a' b' _ s u (omega (arith, e.1)) ∙ h u t) in
              (e.0 ∙ sym e'.0, e.1 ∙ sym e'.1);
          lowest_there = there;
        }
    go (missing h) =
        let e : (within a b ≡ true) × (looked_at a b ≡ length a) = ends_past a b h in
        record {
          at_most = omega (arith, e.1);
          all_words = λ q. e.1;
          last_word = λ q. absurd (true≢false (sym e.0 ∙ q));
          stops_short = λ q. absurd (let z : ⊥ = omega (arith, e.1) in z);
          decides = e.0 ∙ sym (ap not (within_misses a b e.0 _));
          looks_no_further = λ a' b' k s.
              let e' = ends_past a' b' (λ u t. same a' b' _ s u (omega (arith, e.1)) ∙ h u (omega arith)) in
              (e.0 ∙ sym e'.0, e.1 ∙ k ∙ sym e'.1);
          lowest_there = there;
        }
