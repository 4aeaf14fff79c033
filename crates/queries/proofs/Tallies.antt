-- The tally of a list of amounts: one amount more at its end, what the rules find in it, and its range.
use mathlib.Core.Path.{◌≡◌, refl, sym, ap, ◌∙◌}
use mathlib.Core.List.{List, [], ◌∷◌, ◌++◌}
use mathlib.Core.Bool.{Bool, true, false, cond}
use Prim.Native.Nat.{ℕ, suc, ◌+◌, ◌-◌, ◌≤◌, ◌<◌}
use native.Mathlib.Decide.{ℕ_discrete}
use native.Mathlib.Omega.{arith}
use lib.Dec.{eqb, ltb}
use lib.IntN.{ℤ, pos, negsuc, ◌+ℤ◌, +ℤ_idl, +ℤ_idr, +ℤ_assoc}
use lib.Signed.{mag, lt_z}
use borrow.Author.Tests.{lt-ltb, le-ltb, ne_eqb}
use mir.Syntax.{w32, w64}
use mir.Val.{SFits, to_z, of_z}
use mir.Facts.{sfits_widen, to_z-of_z}
use Rattle.std.specs.Prelude.{Some}
use Rattle.monitor.specs.Run.{Cell}
use Rattle.monitor.specs.Rules.{amounts_of, count_of, sum_of, best, best_of, aggregate}
use Rattle.queries.specs.Tallies.{start_of, with_amount, with_amounts, tally_of, no_amount, amount_of}

-- ---- one more at the end

amounts_more : (kind : ℕ) (t : ℤ) (zs : List ℤ) (z : ℤ) → with_amount kind (with_amounts kind t zs) z ≡ with_amounts kind t (zs ++ (z ∷ []))
unfolding with_amounts
amounts_more kind t [] z = refl
amounts_more kind t (y ∷ zs) z = amounts_more kind (with_amount kind t y) zs z

pub tally_more : (kind : ℕ) (zs : List ℤ) (z : ℤ) → with_amount kind (tally_of kind zs) z ≡ tally_of kind (zs ++ (z ∷ []))
tally_more kind zs z = amounts_more kind (start_of kind) zs z

-- ---- amounts of 32 bits

pub data Within : List ℤ → Type 0 where
  nothing : Within []
  more : {z : ℤ} {zs : List ℤ} → mag z < 2147483648 → Within zs → Within (z ∷ zs)

pub within_more : {zs : List ℤ} (z : ℤ) → Within zs → mag z < 2147483648 → Within (zs ++ (z ∷ []))
within_more z nothing h = more h nothing
within_more z (more g w) h = more g (within_more z w h)

either : (b : Bool) (x y : ℤ) {n : ℕ} → mag x ≤ n → mag y ≤ n → mag (cond b x y) ≤ n
either true x y p q = p
either false x y p q = q

best_small : (beats : ℤ → ℤ → Bool) (y : ℤ) {zs : List ℤ} → mag y < 2147483648 → Within zs → mag (best beats y zs) < 2147483648
unfolding best
best_small beats y h nothing = h
best_small beats y h (more {z} g w) = best_small beats (cond (beats z y) z y) (omega (arith, either (beats z y) z y {n = 2147483647} (omega arith) (omega arith))) w

-- an amount beats both starts, and stays within them
least_first : (z : ℤ) → mag z < 2147483648 → lt_z z (pos 2147483648) ≡ true
least_first (pos n) h = lt-ltb n 2147483648 h
least_first (negsuc n) h = refl

most_first : (z : ℤ) → mag z < 2147483648 → lt_z (negsuc 2147483648) z ≡ true
most_first (pos n) h = refl
most_first (negsuc n) h = lt-ltb n 2147483648 h

not_above : (z : ℤ) → mag z < 2147483648 → lt_z (pos 2147483647) z ≡ false
not_above (pos n) h = le-ltb 2147483647 n (omega arith)
not_above (negsuc n) h = refl

not_below : (z : ℤ) → mag z < 2147483648 → lt_z z (negsuc 2147483647) ≡ false
not_below (pos n) h = refl
not_below (negsuc n) h = le-ltb 2147483647 n (omega arith)

-- ---- the values of the rules

counts : (t : ℤ) (zs : List ℤ) → with_amounts 8 t zs ≡ t +ℤ count_of zs
unfolding with_amounts with_amount count_of
counts t [] = sym (+ℤ_idr t)
counts t (z ∷ zs) = counts (t +ℤ pos 1) zs ∙ +ℤ_assoc t (pos 1) (count_of zs)

sums : (t : ℤ) (zs : List ℤ) → with_amounts 9 t zs ≡ t +ℤ sum_of zs
unfolding with_amounts with_amount sum_of
sums t [] = sym (+ℤ_idr t)
sums t (z ∷ zs) = sums (t +ℤ z) zs ∙ +ℤ_assoc t z (sum_of zs)

least : (t : ℤ) (zs : List ℤ) → with_amounts 10 t zs ≡ best lt_z t zs
unfolding with_amounts with_amount best
least t [] = refl
least t (z ∷ zs) = least (cond (lt_z z t) z t) zs

least_is : {zs : List ℤ} → Within zs → amount_of 10 (best lt_z (pos 2147483648) zs) ≡ best_of lt_z zs
unfolding no_amount amount_of best best_of
least_is nothing = refl
least_is (more {z} {zs} h w) =
    let small : mag (best lt_z z zs) < 2147483648 = best_small lt_z z h w in
    rw (least_first z h) (rw (not_above (best lt_z z zs) small))

module _ (kind : ℕ) (a : eqb kind 8 ≡ false) (b : eqb kind 9 ≡ false) (d : eqb kind 10 ≡ false) where
  most : (t : ℤ) (zs : List ℤ) → with_amounts kind t zs ≡ best (λ x y. lt_z y x) t zs
  unfolding with_amounts with_amount best
  most t [] = refl
  most t (z ∷ zs) = rw (a, b, d) (most (cond (lt_z t z) z t) zs)

  most_is : {zs : List ℤ} → Within zs → amount_of kind (best (λ x y. lt_z y x) (negsuc 2147483648) zs) ≡ best_of (λ x y. lt_z y x) zs
  unfolding no_amount amount_of best best_of
  most_is nothing = rw (a, b, d)
  most_is (more {z} {zs} h w) =
      let small : mag (best (λ x y. lt_z y x) z zs) < 2147483648 = best_small (λ x y. lt_z y x) z h w in
      rw (a, b, d, most_first z h) (rw (not_below (best (λ x y. lt_z y x) z zs) small))

module _ (cells : List Cell) (w : Within (amounts_of cells)) where
  abbrev zs : List ℤ
  zs = amounts_of cells

  pub amount_is : (kind : ℕ) → amount_of kind (tally_of kind zs) ≡ aggregate kind cells
  unfolding start_of no_amount amount_of aggregate
  amount_is kind = go (ℕ_discrete kind 8) (ℕ_discrete kind 9) (ℕ_discrete kind 10)
    where
      go : Dec (kind ≡ 8) → Dec (kind ≡ 9) → Dec (kind ≡ 10) → amount_of kind (tally_of kind zs) ≡ aggregate kind cells
      go (yes e) y z = rw e (ap Some (counts (pos 0) zs ∙ +ℤ_idl (count_of zs)))
      go (no n) (yes e) z = rw e (ap Some (sums (pos 0) zs ∙ +ℤ_idl (sum_of zs)))
      go (no n) (no m) (yes e) = rw e (rw (least (pos 2147483648) zs) (least_is w))
      go (no n) (no m) (no l) =
          let a = ne_eqb kind 8 n in
          let b = ne_eqb kind 9 m in
          let d = ne_eqb kind 10 l in
          rw (a, b, d) (rw (most kind a b d (negsuc 2147483648) zs) (rw (a, b, d) at (most_is kind a b d w)))

-- ---- a tally keeps within 64 bits

-- a number of 32 bits, as one of 64
pub widened : {z x : ℤ} → SFits w32 z → x ≡ to_z w32 (of_z w32 z) → to_z w64 (of_z w64 x) ≡ z
widened p e = rw (e, to_z-of_z p) (to_z-of_z {w = w64} (sfits_widen {w = w32} {w' = w64} tt p))

mag_cond : (t : Bool) (x y n : ℕ) → x ≤ n → y ≤ n → mag (cond t (negsuc x) (pos y)) ≤ n
mag_cond true x y n p q = p
mag_cond false x y n p q = q

pub mag_sum : (a b : ℤ) → mag (a +ℤ b) ≤ mag a + mag b + 1
mag_sum (pos a) (pos b) = omega arith
mag_sum (pos a) (negsuc b) = mag_cond (ltb a (suc b)) (suc b - suc a) (a - suc b) (a + b + 1) (omega arith) (omega arith)
mag_sum (negsuc a) (pos b) = mag_cond (ltb b (suc a)) (suc a - suc b) (b - suc a) (a + b + 1) (omega arith) (omega arith)
mag_sum (negsuc a) (negsuc b) = omega arith

pub start_small : (kind : ℕ) → mag (start_of kind) ≤ 2147483648
unfolding start_of
start_small kind =
    either (eqb kind 8) _ _ (omega arith) (either (eqb kind 9) _ _ (omega arith) (either (eqb kind 10) _ _ (omega arith) (omega arith)))

-- one amount more makes it larger by 32 bits at most
pub small_more : (kind : ℕ) (t z : ℤ) → mag z < 2147483648 → mag (with_amount kind t z) ≤ mag t + 2147483648
unfolding with_amount
small_more kind t z h =
    either (eqb kind 8) _ _ (omega (arith, mag_sum t (pos 1)))
    (either (eqb kind 9) _ _ (omega (arith, mag_sum t z))
    (either (eqb kind 10) _ _ (either (lt_z z t) _ _ (omega arith) (omega arith)) (either (lt_z t z) _ _ (omega arith) (omega arith))))
