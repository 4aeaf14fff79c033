-- The first number that a test picks: the loops that look for it, and what it tells. Assumes nothing.
use mathlib.Core.Path.{◌≡◌, refl, sym, ap, ◌∙◌}
use mathlib.Core.Bool.{Bool, true, false, cond}
use Prim.Native.Nat.{ℕ, zero, suc, ◌+◌, ◌≤◌, ◌<◌}
use native.Mathlib.Decide.{ℕ_discrete}
use native.Mathlib.Omega.{arith}
use lib.Dec.{ltb}
use borrow.Author.Tests.{lt-ltb, le-ltb, ltb-false}
use Rattle.std.specs.Prelude.{Some, None}
use Rattle.book.specs.Refusals.{first, first_bad}

-- f picks none of the numbers below i
pub record NoneBelow (f : ℕ → Bool) (i : ℕ) : Type 0 where
  pub none : (j : ℕ) → j < i → f j ≡ false

module _ (f : ℕ → Bool) where
  pub none_yet : NoneBelow f 0
  none_yet = record { none = λ j h. absurd (below_zero j h) }
    where
      below_zero : (j : ℕ) → j < 0 → ⊥
      below_zero j h = omega arith

  pub none_next : (i : ℕ) → NoneBelow f i → f i ≡ false → NoneBelow f (i + 1)
  none_next i n e = record { none = λ j h. go j h (ℕ_discrete j i) }
    where
      go : (j : ℕ) → j < i + 1 → Dec (j ≡ i) → f j ≡ false
      go j h (yes q) = ap f q ∙ e
      go j h (no q) = n.none j (omega arith)

  pub first_none : (n : ℕ) → NoneBelow f n → first f n ≡ n
  unfolding first
  first_none zero b = refl
  first_none (suc n) b =
      let e : first f n ≡ n = first_none n (record { none = λ j h. b.none j (omega arith) }) in
      rw (e, le-ltb n n (omega arith), b.none n (omega arith))

  pub first_found : (n i : ℕ) → i < n → NoneBelow f i → f i ≡ true → first f n ≡ i
  unfolding first
  first_found zero i h b e = absurd (below_zero h)
    where
      below_zero : i < 0 → ⊥
      below_zero h = omega arith
  first_found (suc n) i h b e = go (ℕ_discrete i n) (λ l. first_found n i l b e)
    where
      go : Dec (i ≡ n) → (i < n → first f n ≡ i) → first f (suc n) ≡ i
      go (yes q) ih =
          let z : first f n ≡ n = first_none n (record { none = λ j l. b.none j (omega arith) }) in
          let t : f n ≡ true = ap f (sym q) ∙ e in
          rw (z, le-ltb n n (omega arith), t) (sym q)
      go (no q) ih =
          let z : first f n ≡ i = ih (omega arith) in
          rw (z, lt-ltb i n (omega arith))

  pub first_bad_none : (n : ℕ) → NoneBelow f n → first_bad f n ≡ None
  unfolding first_bad
  first_bad_none n b = rw (first_none n b, le-ltb n n (omega arith))

  pub first_bad_found : (n i : ℕ) → i < n → NoneBelow f i → f i ≡ true → first_bad f n ≡ Some i
  unfolding first_bad
  first_bad_found n i h b e = rw (first_found n i h b e, lt-ltb i n h)

  pub first_le : (n : ℕ) → first f n ≤ n
  unfolding first
  first_le zero = omega arith
  first_le (suc n) = either (ltb (first f n) n) (f n) (first_le n)
    where
      either : (b c : Bool) → first f n ≤ n → cond b (first f n) (cond c n (suc n)) ≤ suc n
      either true c h = omega arith
      either false true h = omega arith
      either false false h = omega arith

  -- a number below the first is not picked
  pub below_first : (n i : ℕ) → i < first f n → f i ≡ false
  unfolding first
  below_first zero i h = absurd (below_zero h)
    where
      below_zero : i < 0 → ⊥
      below_zero h = omega arith
  below_first (suc n) i h = go (ltb (first f n) n) refl (f n) refl (ℕ_discrete i n) (below_first n i)
    where
      go : (b : Bool) → ltb (first f n) n ≡ b → (c : Bool) → f n ≡ c → Dec (i ≡ n) → (i < first f n → f i ≡ false) → f i ≡ false
      go true e c q d ih = ih (rw e at h)
      go false e true q d ih =
          let k : i < n = rw (e, q) at h in
          ih (omega (arith, ltb-false (first f n) n e))
      go false e false q (yes p) ih = ap f p ∙ q
      go false e false q (no p) ih =
          let k : i < suc n = rw (e, q) at h in
          ih (omega (arith, ltb-false (first f n) n e))
