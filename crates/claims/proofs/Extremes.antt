-- What a query finds, by the places of its range: place by place, the amount of a present cell that none at the places passed so far beats.
-- Assumes nothing.
use mathlib.Core.Path.{◌≡◌, refl, sym, ap, ◌∙◌}
use mathlib.Core.List.{List, [], ◌∷◌, ◌++◌, append-nil}
use mathlib.Core.Logic.{inl, inr}
use mathlib.Core.Bool.{Bool, true, false, cond, false≢true}
use Prim.Native.Nat.{ℕ, zero, suc, ◌+◌, ◌*◌, ◌≤◌, ◌<◌}
use native.Mathlib.Nat.{not-suc-le-zero, le_of_suc-le-suc, eq-or-lt_of_le}
use native.Mathlib.Omega.{arith}
use lib.IntN.{ℤ, pos, negsuc}
use lib.Signed.{lt_z}
use borrow.Author.Tests.{ltb-true, ltb-false, le-ltb}
use Rattle.std.specs.Prelude.{Option, Some, None}
use Rattle.monitor.specs.Labelled.{Lab, lit, lift2, via}
use Rattle.monitor.specs.Run.{Cell}
use Rattle.monitor.specs.Rules.{Box, in_box, gather, seen, amounts_of, count_of, sum_of, best, best_of, aggregate, found}
use Rattle.claims.specs.Extremes.{Present, NonePresent, finds, FindsBest, Extremes}

-- the laws by which one pass finds the best: nothing beats itself, of two at most one beats the other, and not to beat carries over
record Order (beats : ℤ → ℤ → Bool) : Type 0 where
  itself : (x : ℤ) → beats x x ≡ false
  one_way : (x y : ℤ) → beats x y ≡ true → beats y x ≡ false
  over : (x y z : ℤ) → beats x y ≡ false → beats y z ≡ false → beats x z ≡ false

below_order : Order lt_z
below_order = record { itself = itself; one_way = one_way; over = over }
  where
    itself : (x : ℤ) → lt_z x x ≡ false
    itself (pos a) = le-ltb a a (omega arith)
    itself (negsuc a) = le-ltb a a (omega arith)

    one_way : (x y : ℤ) → lt_z x y ≡ true → lt_z y x ≡ false
    one_way (pos a) (pos b) e = le-ltb b a (omega (arith, ltb-true a b e))
    one_way (pos a) (negsuc b) e = sym e
    one_way (negsuc a) (pos b) e = refl
    one_way (negsuc a) (negsuc b) e = le-ltb a b (omega (arith, ltb-true b a e))

    over : (x y z : ℤ) → lt_z x y ≡ false → lt_z y z ≡ false → lt_z x z ≡ false
    over (pos a) (pos b) (pos c) d e = le-ltb a c (omega (arith, ltb-false a b d, ltb-false b c e))
    over (pos a) (negsuc b) (pos c) d e = cc
    over (pos a) y (negsuc c) d e = refl
    over (negsuc a) (pos b) z d e = cc
    over (negsuc a) (negsuc b) (pos c) d e = e
    over (negsuc a) (negsuc b) (negsuc c) d e = le-ltb c a (omega (arith, ltb-false b a d, ltb-false c b e))

above_order : Order (λ x y. lt_z y x)
above_order = record { itself = below_order.itself; one_way = λ x y. below_order.one_way y x; over = λ x y z d e. below_order.over z y x e d }

amounts_append : (cs ds : List Cell) → amounts_of (cs ++ ds) ≡ amounts_of cs ++ amounts_of ds
unfolding amounts_of
amounts_append [] ds = refl
amounts_append (c ∷ cs) ds = go c.present (amounts_append cs ds)
  where
    go : (b : Bool) {zs : List ℤ} → zs ≡ amounts_of cs ++ amounts_of ds
        → elim b [ true ↦ c.amount ∷ zs | false ↦ zs ] ≡ elim b as (λ _. List ℤ) [ true ↦ c.amount ∷ amounts_of cs | false ↦ amounts_of cs ] ++ amounts_of ds
    go true e = rw e
    go false e = e

module _ (beats : ℤ → ℤ → Bool) where
  -- the best so far, with one amount more
  abbrev better : Option ℤ → ℤ → Option ℤ
  better None x = Some x
  better (Some z) x = Some (cond (beats x z) x z)

  best_last : (z : ℤ) (zs : List ℤ) (x : ℤ) → best beats z (zs ++ (x ∷ [])) ≡ cond (beats x (best beats z zs)) x (best beats z zs)
  unfolding best
  best_last z [] x = refl
  best_last z (y ∷ zs) x = best_last (cond (beats y z) y z) zs x

  best_of_last : (zs : List ℤ) (x : ℤ) → best_of beats (zs ++ (x ∷ [])) ≡ better (best_of beats zs) x
  unfolding best_of best
  best_of_last [] x = refl
  best_of_last (z ∷ zs) x = ap Some (best_last z zs x)

  module _ (cells : ℕ → Lab Cell) (p : ℕ) (x : Box) where
    -- the best of the cells that are gathered below place n
    abbrev best_below : ℕ → Option ℤ
    best_below n = best_of beats (amounts_of (gather cells (in_box x) (64 * p) n).val)

    -- all amounts of present cells of the range below place n are in P
    abbrev EachBelow : ℕ → (ℤ → Type 0) → Type 0
    EachBelow n P = (q : ℕ) (w : ℤ) → q < n → Present cells p x q w → P w

    one_more : {P : ℤ → Type 0} {n : ℕ} → EachBelow n P → ((w : ℤ) → Present cells p x n w → P w) → EachBelow (suc n) P
    one_more f g q w l h = elim (eq-or-lt_of_le (le_of_suc-le-suc l)) [ inl e ↦ g w (rw e at h) | inr l ↦ f q w l h ]

    -- what that best says of them
    data BestBelow (n : ℕ) : Option ℤ → Type 0 where
      none : EachBelow n (λ w. ⊥) → BestBelow n None
      some : {z : ℤ} (q : ℕ) → Present cells p x q z → EachBelow n (λ w. beats w z ≡ false) → BestBelow n (Some z)

    -- a place holds one amount
    only : {q : ℕ} {y z : ℤ} → Present cells p x q z → beats z y ≡ false → (w : ℤ) → Present cells p x q w → beats w y ≡ false
    only h e w k = rw (sym k.amount ∙ h.amount) e

    -- place n counts for nothing
    passed : {n : ℕ} {a : Option ℤ} → BestBelow n a → ((w : ℤ) → Present cells p x n w → ⊥) → BestBelow (suc n) a
    passed (none f) g = none (one_more f g)
    passed (some q h f) g = some q h (one_more f (λ w k. absurd (g w k)))

    module _ (order : Order beats) where
      -- place n counts
      taken : {n : ℕ} {a : Option ℤ} {z : ℤ} → BestBelow n a → Present cells p x n z → BestBelow (suc n) (better a z)
      taken {n} {z = z} (none f) h = some n h (one_more (λ q w l k. absurd (f q w l k)) (only h (order.itself z)))
      taken {n} {z = z} (some {z = y} q k f) h = go (beats z y) refl
        where
          go : (b : Bool) → beats z y ≡ b → BestBelow (suc n) (Some (cond b z y))
          go true e = some n h (one_more (λ q w l k. order.over w y z (f q w l k) (order.one_way z y e)) (only h (order.itself z)))
          go false e = some q k (one_more f (only h e))

      all_below : (n : ℕ) → n ≤ 64 → BestBelow n (best_below n)
      unfolding gather lit lift2 amounts_of best_of
      all_below zero l = none (λ q w l. absurd (not-suc-le-zero l))
      all_below (suc n) l = go (in_box x (64 * p + n)) (cells (64 * p + n)).val.present refl refl (all_below n (omega arith))
        where
          go : (b d : Bool) → in_box x (64 * p + n) ≡ b → (cells (64 * p + n)).val.present ≡ d
              → BestBelow n (best_below n) → BestBelow (suc n) (best_below (suc n))
          go true true e k f =
              let h : Present cells p x n _ = record { below = l; inside = e; present = k; amount = refl } in
              rw (e, gather) (rw (amounts_append, k, amounts_of, best_of_last) (taken f h))
          go true false e k f = rw (e, gather) (rw (amounts_append, k, amounts_of, append-nil) (passed f (λ w h. false≢true (sym k ∙ h.present))))
          go false d e k f = rw (e, gather) (passed f (λ w h. false≢true (sym e ∙ h.inside)))

    none_nothing : {a : Option ℤ} → BestBelow 64 a → NonePresent cells p x → a ≡ None
    none_nothing (none f) n = refl
    none_nothing (some q h f) n = absurd (n q _ h)

  finds_best : (kind : ℕ) → ((cs : List Cell) → aggregate kind cs ≡ best_of beats (amounts_of cs)) → Order beats → FindsBest kind beats
  unfolding seen via found
  finds_best kind is order = record {
    nothing = λ cells p x. none_nothing cells p x (places cells p x refl);
    only_there = λ cells p x e q z h. elim (places cells p x e) [ none f ↦ f q z h.below h ];
    exact = λ cells p x z e. elim (places cells p x e) [ some q h f ↦ record { at = q; held = h; unbeaten = λ q w k. f q w k.below k } ];
    stops = λ i p x s n. rw (none_nothing s.cells p x.val (places s.cells p x.val refl) n);
  }
    where
      places : (cells : ℕ → Lab Cell) (p : ℕ) (x : Box) {a : Option ℤ} → finds kind cells p x ≡ a → BestBelow cells p x 64 a
      places cells p x e = rw (sym (is _) ∙ e) at (all_below cells p x order 64 (omega arith))

not_nothing : {z : ℤ} → Some z ≡ None → ⊥
not_nothing e = let d : ◌≡◌ {A = ℕ} 0 1 = cc in omega arith

no_amounts : (zs : List ℤ) → best_of lt_z zs ≡ None → zs ≡ []
unfolding best_of
no_amounts [] e = refl
no_amounts (z ∷ zs) e = absurd (not_nothing e)

pub extremes : Extremes
unfolding aggregate count_of sum_of
extremes =
    let least : FindsBest 10 lt_z = finds_best _ 10 (λ cs. refl) below_order in
    record {
      smallest = least;
      largest = finds_best _ 11 (λ cs. refl) above_order;
      count_there = λ cells p x e. not_nothing e;
      sum_there = λ cells p x e. not_nothing e;
      count_zero = λ cells p x n. rw (no_amounts _ (least.nothing cells p x n));
      sum_zero = λ cells p x n. rw (no_amounts _ (least.nothing cells p x n));
    }
