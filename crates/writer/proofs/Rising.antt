-- Records whose places rise: those of an accepted file, and those picked of lent memory; once for cells and labels. Assumes nothing.
use mathlib.Core.Path.{◌≡◌, refl, ap, ap₂, ◌∙◌}
use mathlib.Core.List.{List, [], ◌∷◌}
use mathlib.Core.Bool.{Bool, true, false, ◌&&◌, cond, not, false≢true}
use mathlib.Core.Option.{Option, none, some}
use Prim.Native.Nat.{ℕ, zero, suc, ◌+◌, ◌≤◌, ◌<◌}
use native.Mathlib.Decide.{ℕ_discrete}
use native.Mathlib.Nat.{not-suc-le-zero, le_of_suc-le-suc}
use native.Mathlib.Omega.{arith}
use lib.Dec.{eqb}
use lib.ListN.{length, get_or}
use borrow.Author.Tests.{ltb-true, lt-ltb, eq-eqb, ne_eqb, not-false}
use Rattle.book.specs.Records.{Format}
use Rattle.book.specs.Refusals.{rises}
use Rattle.book.specs.Encode.{keep, picked}
use Rattle.book.proofs.Chains.{both, pass}
use Rattle.encoder.proofs.Codec.{Kept, AllKept, more}
use Rattle.encoder.proofs.Codec.{none as none_kept}

-- good records whose places rise from p on
pub data Rising {A : Type 0} (place : A → ℕ) (fits : A → Bool) : ℕ → List A → Type 0 where
  ended : {p : ℕ} → Rising place fits p []
  next : {p : ℕ} {c : A} {cs : List A} → p ≤ place c → fits c ≡ true → Rising place fits (suc (place c)) cs → Rising place fits p (c ∷ cs)

-- the record with place q, if there is one
unfoldable pub find : {A : Type 0} → (A → ℕ) → List A → ℕ → Option A
find place [] q = none
find place (c ∷ cs) q = cond (eqb (place c) q) (some c) (find place cs q)

abbrev pub found : {A : Type 0} → Option A → Bool
found none = false
found (some c) = true

abbrev or_else : {A : Type 0} → A → Option A → A
or_else d none = d
or_else d (some c) = c

module _ {A : Type 0} (place : A → ℕ) (fits : A → Bool) where
  abbrev Rises : ℕ → List A → Type 0
  Rises = Rising place fits

  weaken : {p q : ℕ} {cs : List A} → p ≤ q → Rises q cs → Rises p cs
  weaken h ended = ended
  weaken {p} h (next {c = c} l f r) = next {p = p} {c = c} (omega arith) f r

  -- ---- as the refusals say it, record by record

  module _ (missing : A) where
    abbrev bad : List A → ℕ → Bool
    bad cs i = not (fits (get_or cs i missing) && rises place missing cs i)

    good_after : (c : A) (cs : List A) → ((i : ℕ) → i < length cs → bad (c ∷ cs) (suc i) ≡ false) → Rises (suc (place c)) cs
    unfolding rises
    good_after c [] h = ended
    good_after c (d ∷ cs) h =
        let e = both (fits d) _ (not-false _ (h 0 (omega arith))) in
        next (ltb-true (place c) (place d) e.1) e.0 (good_after d cs (λ i l. h (suc i) (omega arith)))

    pub good_rising : (cs : List A) → ((i : ℕ) → i < length cs → bad cs i ≡ false) → Rises 0 cs
    unfolding rises
    good_rising [] h = ended
    good_rising (c ∷ cs) h =
        let e = both (fits c) true (not-false _ (h 0 (omega arith))) in
        next {p = 0} {c = c} (omega arith) e.0 (good_after c cs (λ i l. h (suc i) (omega arith)))

    after_good : (c : A) {p : ℕ} {cs : List A} → place c < p → Rises p cs → (i : ℕ) → i < length cs → bad (c ∷ cs) (suc i) ≡ false
    unfolding rises
    after_good c k ended i h = absurd (not-suc-le-zero h)
    after_good c k (next {c = d} l f r) zero h = ap not (pass f (lt-ltb (place c) (place d) (omega arith)))
    after_good c k (next {c = d} l f r) (suc i) h = after_good d (omega arith) r i (le_of_suc-le-suc h)

    pub rising_good : {cs : List A} → Rises 0 cs → (i : ℕ) → i < length cs → bad cs i ≡ false
    unfolding rises
    rising_good ended i h = absurd (not-suc-le-zero h)
    rising_good (next {c = c} l f r) zero h = ap not (pass f refl)
    rising_good (next {c = c} l f r) (suc i) h = after_good c (omega arith) r i (le_of_suc-le-suc h)

  -- ---- what is found at a place

  -- below p there is none
  pub find_below : {p : ℕ} {cs : List A} → Rises p cs → (q : ℕ) → q < p → find place cs q ≡ none
  unfolding find
  find_below ended q h = refl
  find_below (next {c = c} l f r) q h = rw (ne_eqb (place c) q (λ e. omega arith)) (find_below r q (omega arith))

  pub find_good : {p : ℕ} {cs : List A} → Rises p cs → (q : ℕ) (c : A) → find place cs q ≡ some c → (place c ≡ q) × (fits c ≡ true)
  unfolding find
  find_good ended q c e = absurd (false≢true (ap found e))
  find_good (next {c = d} {cs = cs} l f r) q c e = go (ℕ_discrete (place d) q) (find_good r q c)
    where
      go : Dec (place d ≡ q) → (find place cs q ≡ some c → (place c ≡ q) × (fits c ≡ true)) → (place c ≡ q) × (fits c ≡ true)
      go (yes k) later =
          let same : d ≡ c = ap (or_else d) (rw (eq-eqb (place d) q k) at e) in
          (rw same at k, rw same at f)
      go (no k) later = later (rw (ne_eqb (place d) q k) at e)

  pub find_kept : {f : Format A} {cs : List A} → AllKept f cs → (q : ℕ) (c : A) → find place cs q ≡ some c → Kept f c
  unfolding find
  find_kept none_kept q c e = absurd (false≢true (ap found e))
  find_kept {f} (more {a = d} {rs = cs} k ks) q c e = go (ℕ_discrete (place d) q) (find_kept ks q c)
    where
      go : Dec (place d ≡ q) → (find place cs q ≡ some c → Kept f c) → Kept f c
      go (yes h) later =
          let same : d ≡ c = ap (or_else d) (rw (eq-eqb (place d) q h) at e) in
          rw same at k
      go (no h) later = later (rw (ne_eqb (place d) q h) at e)

  -- ---- records picked of lent memory

  module _ (picks : ℕ → Bool) (g : ℕ → A) where
    pub picked_kept : {f : Format A} → ((p : ℕ) → p < 512 → Kept f (g p)) → (n p : ℕ) → p + n ≤ 512 → AllKept f (picked picks g n p)
    unfolding picked
    picked_kept k zero p h = none_kept
    picked_kept {f} k (suc n) p h = go (picks p) (picked_kept k n (suc p) (omega arith))
      where
        go : (t : Bool) → AllKept f (picked picks g n (suc p)) → AllKept f (keep t (g p) (picked picks g n (suc p)))
        go true r = more (k p (omega arith)) r
        go false r = r

    module _ (placed : (p : ℕ) → place (g p) ≡ p) (good : (p : ℕ) → p < 512 → picks p ≡ true → fits (g p) ≡ true) where
      pub picked_rising : (n p : ℕ) → p + n ≤ 512 → Rises p (picked picks g n p)
      unfolding picked
      picked_rising zero p h = ended
      picked_rising (suc n) p h = go (picks p) refl (picked_rising n (suc p) (omega arith))
        where
          go : (t : Bool) → picks p ≡ t → Rises (suc p) (picked picks g n (suc p)) → Rises p (keep t (g p) (picked picks g n (suc p)))
          go true e r = next {p = p} {c = g p} (omega (arith, placed p)) (good p (omega arith) e) (weaken (omega (arith, placed p)) r)
          go false e r = weaken (omega arith) r

      -- what they give to a place
      pub picked_find : (n p : ℕ) → p + n ≤ 512 → (q : ℕ) → p ≤ q → q < p + n → find place (picked picks g n p) q ≡ cond (picks q) (some (g q)) none
      unfolding picked find
      picked_find zero p h q l m = absurd (let z : ⊥ = omega arith in z)
      picked_find (suc n) p h q l m = go (picks p) refl (ℕ_discrete p q) (λ k. picked_find n (suc p) (omega arith) q k (omega arith))
        where
          go : (t : Bool) → picks p ≡ t → Dec (p ≡ q) → (suc p ≤ q → find place (picked picks g n (suc p)) q ≡ cond (picks q) (some (g q)) none)
              → find place (keep t (g p) (picked picks g n (suc p))) q ≡ cond (picks q) (some (g q)) none
          go true e (yes k) later = rw (placed p, eq-eqb p q k, ← k, e)
          go true e (no k) later = rw (placed p, ne_eqb p q k) (later (omega arith))
          go false e (yes k) later = rw (← k, e) (find_below (picked_rising n (suc p) (omega arith)) p (omega arith))
          go false e (no k) later = later (omega arith)

    -- lent memory holds these records, from place p on
    pub record Holds (cs : List A) (p : ℕ) : Type 0 where
      pub there : (q : ℕ) → p ≤ q → q < 512 → picks q ≡ found (find place cs q)
      pub same : (q : ℕ) → p ≤ q → q < 512 → (c : A) → find place cs q ≡ some c → g q ≡ c

    holds_later : {cs : List A} {p : ℕ} → Holds cs p → Holds cs (suc p)
    holds_later v = record { there = λ q l. v.there q (omega arith); same = λ q l. v.same q (omega arith) }

    holds_rest : {c : A} {cs : List A} {p : ℕ} → place c ≡ p → Holds (c ∷ cs) p → Holds cs (suc p)
    unfolding find
    holds_rest {c} {cs} {p} e v = record {
      there = λ q l m. v.there q (omega arith) m ∙ ap found (skipped q l);
      same = λ q l m d x. v.same q (omega arith) m d (skipped q l ∙ x);
    }
      where
        skipped : (q : ℕ) → suc p ≤ q → find place (c ∷ cs) q ≡ find place cs q
        skipped q l = rw (ne_eqb (place c) q (λ x. omega arith))

    -- rising records that the memory holds are those picked of it
    module _ (inside : (c : A) → fits c ≡ true → place c < 512) where
      pub picked_are : (n p : ℕ) (cs : List A) → p + n ≡ 512 → Rises p cs → Holds cs p → picked picks g n p ≡ cs
      unfolding picked find
      picked_are zero p [] h r v = refl
      picked_are zero p (c ∷ cs) h (next l f r) v = absurd (past (inside c f))
        where
          past : place c < 512 → ⊥
          past k = omega arith
      picked_are (suc n) p [] h r v = rw (v.there p (omega arith) (omega arith)) (picked_are n (suc p) [] (omega arith) ended (holds_later v))
      picked_are (suc n) p (c ∷ cs) h (next l f r) v = go (ℕ_discrete (place c) p) (picked_are n (suc p))
        where
          go : Dec (place c ≡ p) → ((cs : List A) → suc p + n ≡ 512 → Rises (suc p) cs → Holds cs (suc p) → picked picks g n (suc p) ≡ cs)
              → picked picks g (suc n) p ≡ c ∷ cs
          go (yes e) later =
              let t : picks p ≡ true = v.there p (omega arith) (omega arith) ∙ rw (eq-eqb (place c) p e) in
              let x : g p ≡ c = v.same p (omega arith) (omega arith) c (rw (eq-eqb (place c) p e)) in
              rw t (ap₂ (λ (a : A) (l : List A). a ∷ l) x (later cs (omega arith) (rw e at r) (holds_rest e v)))
          go (no e) later =
              let on : Rises (suc p) (c ∷ cs) = next {p = suc p} {c = c} (omega arith) f r in
              let t : picks p ≡ false = v.there p (omega arith) (omega arith) ∙ ap found (find_below on p (omega arith)) in
              rw t (later (c ∷ cs) (omega arith) on (holds_later v))
