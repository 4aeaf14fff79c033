-- How many numbers a predicate picks and which is the least; the number of members and the lowest member, for any number of words.
use mathlib.Core.Path.{◌≡◌, refl, sym, ap, ◌∙◌}
use mathlib.Core.List.{List}
use mathlib.Core.Bool.{Bool, true, false, cond, true≢false}
use Rattle.std.specs.Prelude.{Option, Some, None}
use mathlib.Core.Logic.{◌↔◌, ⊎_elim}
use Prim.Native.Nat.{ℕ, zero, suc, ◌+◌, ◌*◌, ◌<◌}
use native.Mathlib.Decide.{dec_lt}
use native.Mathlib.Nat.{not-suc-le-zero, le_of_suc-le-suc, eq-or-lt_of_le}
use native.Mathlib.Omega.{arith}
use lib.ListN.{length}
use Rattle.places.specs.Sets.{has, tally, size, least, or_else, lowest}
use Rattle.places.proofs.Sets.{has_below}

-- ---- of a predicate

-- none below n is picked
abbrev pub NonePicked : (ℕ → Bool) → ℕ → Type 0
NonePicked f n = (k : ℕ) → k < n → f k ≡ false

-- one more that is not picked
pub none_next : (f : ℕ → Bool) (n : ℕ) → NonePicked f n → f n ≡ false → NonePicked f (n + 1)
none_next f n h e k l = ⊎_elim (λ (q : k ≡ n). ap f q ∙ e) (λ (j : k < n). h k j) (eq-or-lt_of_le (omega arith))

pub tally_none : (f : ℕ → Bool) (n : ℕ) → (tally f n ≡ 0) ↔ NonePicked f n
unfolding tally
tally_none f n = (up n, down n)
  where
    unpicked : (b : Bool) → ◌≡◌ {A = ℕ} (cond b 1 0) 0 → b ≡ false
    unpicked true e = absurd (let z : ⊥ = omega arith in z)
    unpicked false e = refl

    up : (n : ℕ) → tally f n ≡ 0 → NonePicked f n
    up zero e k h = absurd (not-suc-le-zero h)
    up (suc n) e k h =
        ⊎_elim (λ (q : k ≡ n). ap f q ∙ unpicked (f n) (omega arith)) (λ (l : k < n). up n (omega arith) k l) (eq-or-lt_of_le (le_of_suc-le-suc h))

    down : (n : ℕ) → NonePicked f n → tally f n ≡ 0
    down zero h = refl
    down (suc n) h = rw (h n (omega arith)) (omega (arith, down n (λ k l. h k (omega arith))))

-- what `least` answers: the least of the numbers below n that f picks, or none where it picks none
pub data Least (f : ℕ → Bool) (n : ℕ) : Option ℕ → Type 0 where
  found : {p : ℕ} → p < n → f p ≡ true → NonePicked f p → Least f n (Some p)
  missing : NonePicked f n → Least f n None

pub least_is : (f : ℕ → Bool) (n : ℕ) → Least f n (least f n)
unfolding least
least_is f zero = missing (λ k h. absurd (not-suc-le-zero h))
least_is f (suc n) = more (least_is f n) (f n) refl
  where
    last : NonePicked f n → (b : Bool) → f n ≡ b → Least f (suc n) (cond b (Some n) None)
    last h true e = found {p = n} (omega arith) e h
    last h false e =
        missing (λ k l. ⊎_elim (λ (q : k ≡ n). ap f q ∙ e) (λ (j : k < n). h k j) (eq-or-lt_of_le (le_of_suc-le-suc l)))

    more : {o : Option ℕ} → Least f n o → (b : Bool) → f n ≡ b → Least f (suc n) (or_else o (cond b (Some n) None))
    more (found {p = r} l e h) b q = found {p = r} (omega arith) e h
    more (missing h) b q = last h b q

-- an option that is some is not none
pub some_none : {A : Type 0} {p : ℕ} → ◌≡◌ {A = Option ℕ} (Some p) None → A
some_none e = let z : ◌≡◌ {A = ℕ} 0 1 = cc in absurd (omega arith)

module _ (f : ℕ → Bool) (n : ℕ) where
  -- picked and not picked
  clash : {A : Type 0} (k : ℕ) → f k ≡ true → f k ≡ false → A
  clash k x y = absurd (true≢false (sym x ∙ y))

  -- the least is picked, and none below it
  pub picked : (p : ℕ) → least f n ≡ Some p → (p < n) × (f p ≡ true) × NonePicked f p
  picked p e = go (least_is f n) e
    where
      go : {o : Option ℕ} → Least f n o → o ≡ Some p → (p < n) × (f p ≡ true) × NonePicked f p
      go (found {p = r} l m h) q =
          let e : r ≡ p = cc in
          (rw e at l, rw e at m, rw e at h)
      go (missing h) q = some_none (sym q)

  -- and one that is so is the least
  pub least_found : (p : ℕ) → p < n → f p ≡ true → NonePicked f p → least f n ≡ Some p
  least_found p l m h = go (least_is f n)
    where
      same : (r : ℕ) → f r ≡ true → NonePicked f r → Dec (r < p) → Dec (p < r) → r ≡ p
      same r x w (yes s) t = clash r x (h r s)
      same r x w (no s) (yes t) = clash p m (w p t)
      same r x w (no s) (no t) = omega arith

      go : {o : Option ℕ} → Least f n o → o ≡ Some p
      go (found {p = r} k x w) = ap Some (same r x w (dec_lt r p) (dec_lt p r))
      go (missing w) = clash p m (w p l)

  -- there is no least just where none is picked
  pub none_picked : least f n ≡ None → NonePicked f n
  none_picked e = go (least_is f n) e
    where
      go : {o : Option ℕ} → Least f n o → o ≡ None → NonePicked f n
      go (found l m h) q = some_none q
      go (missing h) q = h

  pub no_least : NonePicked f n → least f n ≡ None
  no_least h = go (least_is f n)
    where
      go : {o : Option ℕ} → Least f n o → o ≡ None
      go (found {p = r} l m w) = clash r m (h r l)
      go (missing w) = refl

  pub least_tally : (least f n ≡ None) ↔ (tally f n ≡ 0)
  least_tally = (λ e. (tally_none f n).1 (none_picked e), λ e. no_least ((tally_none f n).0 e))

-- ---- of a set

-- no place is a member where none below the set's end is
pub no_members : (s : List ℕ) → NonePicked (has s) (64 * length s) → (p : ℕ) → has s p ≡ false
no_members s h p = go (has s p) refl
  where
    go : (b : Bool) → has s p ≡ b → has s p ≡ false
    go true e = h p (has_below s p e)
    go false e = e

pub size_zero : (s : List ℕ) → (size s ≡ 0) ↔ ((p : ℕ) → has s p ≡ false)
unfolding size
size_zero s = (λ e. no_members s ((tally_none (has s) (64 * length s)).0 e), λ h. (tally_none (has s) (64 * length s)).1 (λ k l. h k))

-- the lowest member is a member, and no lower place is
pub lowest_some : (s : List ℕ) (p : ℕ) → lowest s ≡ Some p → (has s p ≡ true) × ((q : ℕ) → q < p → has s q ≡ false)
unfolding lowest
lowest_some s p e =
    let least_one = picked (has s) (64 * length s) p e in
    (least_one.1, least_one.2)

-- where there is no lowest member, there is no member
pub lowest_none : (s : List ℕ) → lowest s ≡ None → (p : ℕ) → has s p ≡ false
unfolding lowest
lowest_none s e = no_members s (none_picked (has s) (64 * length s) e)
