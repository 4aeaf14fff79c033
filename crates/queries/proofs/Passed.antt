-- A pass over the places of a table, as the rules gather its cells.
use mathlib.Core.Path.{◌≡◌, refl, sym, ap, ◌∙◌}
use mathlib.Core.List.{List, [], ◌∷◌, ◌++◌}
use mathlib.Core.Bool.{Bool, true, false, cond}
use Prim.Native.Nat.{ℕ, zero, suc, ◌+◌, ◌-◌, ◌*◌, ◌≤◌, ◌<◌}
use native.Mathlib.Nat.{add-zero}
use native.Mathlib.Numerals.{add-one}
use native.Mathlib.Omega.{arith}
use lib.IntN.{ℤ}
use lib.Signed.{mag}
use Rattle.places.specs.Sets.{union}
use Rattle.monitor.specs.Labelled.{Label, bottom, Lab, lit, lift2}
use Rattle.monitor.specs.Run.{Cell}
use Rattle.monitor.specs.Rules.{gather, amounts_of}
use Rattle.queries.specs.Tallies.{start_of, with_amount, with_amounts, tally_of}
use Rattle.queries.proofs.Tallies.{Within, nothing, tally_more, within_more, start_small, small_more}

amounts_more : (cs : List Cell) (c : Cell) (b : Bool) → c.present ≡ b → amounts_of (cs ++ (c ∷ [])) ≡ cond b (amounts_of cs ++ (c.amount ∷ [])) (amounts_of cs)
unfolding amounts_of
amounts_more [] c true e = rw e
amounts_more [] c false e = rw e
amounts_more (x ∷ cs) c b e = go x.present b (amounts_more cs c b e)
  where
    go : (p b : Bool) {l : List ℤ} → l ≡ cond b (amounts_of cs ++ (c.amount ∷ [])) (amounts_of cs)
        → elim p [ true ↦ x.amount ∷ l | false ↦ l ] ≡ cond b (elim p [ true ↦ x.amount ∷ amounts_of cs | false ↦ amounts_of cs ] ++ (c.amount ∷ [])) (elim p [ true ↦ x.amount ∷ amounts_of cs | false ↦ amounts_of cs ])
    go true true e = ap (λ (l : List ℤ). x.amount ∷ l) e
    go true false e = ap (λ (l : List ℤ). x.amount ∷ l) e
    go false true e = e
    go false false e = e

-- the first n places from `base` on are passed: the tally and the labels are those of the cells picked there
pub record Passed (kind : ℕ) (cells : ℕ → Lab Cell) (picks : ℕ → Bool) (base n : ℕ) (tally : ℤ) (label : Label) : Type 0 where
  pub label_is : label ≡ (gather cells picks base n).lab
  pub tally_is : tally ≡ tally_of kind (amounts_of (gather cells picks base n).val)
  pub within : Within (amounts_of (gather cells picks base n).val)
  pub small : mag tally ≤ 2147483648 * (n + 1)

module _ (kind : ℕ) (cells : ℕ → Lab Cell) (picks : ℕ → Bool) (base : ℕ) where
  -- nothing is passed
  pub passed_none : Passed kind cells picks base 0 (start_of kind) bottom
  unfolding gather amounts_of lit with_amounts
  passed_none = record { label_is = refl; tally_is = refl; within = nothing; small = omega (arith, start_small kind) }

  not_picked : (n : ℕ) → picks (base + n) ≡ false → gather cells picks base (suc n) ≡ gather cells picks base n
  unfolding gather
  not_picked n e = rw (e, gather)

  picked : (n : ℕ) → picks (base + n) ≡ true
      → gather cells picks base (suc n) ≡ lift2 (λ xs x. xs ++ (x ∷ [])) (gather cells picks base n) (cells (base + n))
  unfolding gather
  picked n e = rw (e, gather)

  -- a place that is not picked
  pass_one : (n : ℕ) {t : ℤ} {l : Label} → picks (base + n) ≡ false → Passed kind cells picks base n t l → Passed kind cells picks base (suc n) t l
  pass_one n e p = record {
    label_is = rw (not_picked n e) p.label_is;
    tally_is = rw (not_picked n e) p.tally_is;
    within = rw (not_picked n e) p.within;
    small = omega (arith, p.small);
  }

  -- no place from n to m is picked
  pub pass_over : (n m : ℕ) {t : ℤ} {l : Label} → n ≤ m
      → ((i : ℕ) → n ≤ i → i < m → picks (base + i) ≡ false) → Passed kind cells picks base n t l → Passed kind cells picks base m t l
  pass_over n m h none p = go (m - n) n (omega arith) none p
    where
      go : (k n : ℕ) {t : ℤ} {l : Label} → n + k ≡ m
          → ((i : ℕ) → n ≤ i → i < m → picks (base + i) ≡ false) → Passed kind cells picks base n t l → Passed kind cells picks base m t l
      go zero n e none p = rw (sym (add-zero n) ∙ e) at p
      go (suc k) n e none p =
          go k (suc n) (omega arith) (λ i a b. none i (omega arith) b) (pass_one n (none n (omega arith) (omega arith)) p)

  module _ (n : ℕ) {t : ℤ} {l l' : Label} (e : picks (base + n) ≡ true) (u : l' ≡ union l (cells (base + n)).lab) (p : Passed kind cells picks base n t l) where
    label_more : l' ≡ (gather cells picks base (n + 1)).lab
    unfolding lift2
    label_more = u ∙ rw (p.label_is, add-one n, picked n e)

    amounts_next : (b : Bool) → (cells (base + n)).val.present ≡ b
        → amounts_of (gather cells picks base (n + 1)).val
        ≡ cond b (amounts_of (gather cells picks base n).val ++ ((cells (base + n)).val.amount ∷ [])) (amounts_of (gather cells picks base n).val)
    unfolding lift2
    amounts_next b q = rw (add-one n, picked n e) (amounts_more (gather cells picks base n).val (cells (base + n)).val b q)

    -- a place that is picked: its label counts, its cell is absent
    pub pass_absent : (cells (base + n)).val.present ≡ false → Passed kind cells picks base (n + 1) t l'
    pass_absent q = record {
      label_is = label_more;
      tally_is = p.tally_is ∙ ap (tally_of kind) (sym (amounts_next false q));
      within = rw (amounts_next false q) p.within;
      small = omega (arith, p.small);
    }

    -- and one whose cell is present, with an amount of 32 bits
    pub pass_present : {t' : ℤ} → (cells (base + n)).val.present ≡ true → mag (cells (base + n)).val.amount < 2147483648
        → t' ≡ with_amount kind t (cells (base + n)).val.amount → Passed kind cells picks base (n + 1) t' l'
    pass_present q m w = record {
      label_is = label_more;
      tally_is = w ∙ rw p.tally_is (tally_more kind _ _) ∙ ap (tally_of kind) (sym (amounts_next true q));
      within = rw (amounts_next true q) (within_more (cells (base + n)).val.amount p.within m);
      small = rw w (omega (arith, p.small, small_more kind t (cells (base + n)).val.amount m));
    }
