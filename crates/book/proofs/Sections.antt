-- Sections in order: what it tells of each, and the loop that tests it. Assumes nothing.
use mathlib.Core.Path.{◌≡◌, refl, ◌∙◌}
use mathlib.Core.Bool.{Bool, true, false, ◌&&◌, cond}
use mathlib.Core.List.{List, [], ◌∷◌}
use Prim.Native.Nat.{ℕ, zero, suc, ◌+◌, ◌*◌, ◌≤◌, ◌<◌, zero-le}
use native.Mathlib.Nat.{not-suc-le-zero, le_of_suc-le-suc, add-zero, add-suc, suc-add}
use native.Mathlib.Numerals.{add-one}
use native.Mathlib.Omega.{arith}
use lib.Dec.{eqb, leb}
use lib.ListN.{length, get_or, drop, get_or-map, get_or-append}
use lib.Seq.{drop-cons}
use borrow.Author.Tests.{eqb-true, ne_eqb, leb-true}
use Rattle.book.specs.Records.{cells_format, regions_format, rights_format, nodes_format, programs_format, triggers_format, labels_format}
use Rattle.book.specs.Layout.{trailer, remembers, tail_size, pair_start, distance, count, Bound, six_bounds, seven_bounds, bounds, in_order}
use Rattle.book.proofs.Chains.{both}

-- the pairs of the first six sections stand in the trailer
pub six_pairs : (s : List ℕ) (i : ℕ) → i < 6 → pair_start s i ≡ trailer s + 8 + 4 * i
six_pairs s i h =
    let other : i ≡ 6 → ⊥ = λ e. omega arith in
    rw (ne_eqb i 6 other)

-- ---- what is told

-- one section in order, and those after it
pub first_in_order : (s : List ℕ) (i at : ℕ) (x : Bound) (xs : List Bound) → in_order s i at (x ∷ xs) ≡ true
    → (distance s i + at ≡ length s) × (count s i ≤ x.most) × (in_order s (suc i) (at + count s i * x.size) xs ≡ true)
unfolding in_order
first_in_order s i at x xs e =
    let p = both (eqb (distance s i + at) (length s)) _ e in
    let q = both (leb (count s i) x.most) _ p.1 in
    (eqb-true _ _ p.0, leb-true _ _ q.0, q.1)

pub last_in_order : (s : List ℕ) (i at : ℕ) → in_order s i at [] ≡ true → at + tail_size s ≡ length s
unfolding in_order
last_in_order s i at e = eqb-true (at + tail_size s) (length s) e

pub in_order_back : (s : List ℕ) (i at : ℕ) (xs : List Bound) → in_order s i at xs ≡ true → (k : ℕ) → k < length xs → distance s (i + k) ≤ length s
in_order_back s i at [] e k h = absurd (not-suc-le-zero h)
in_order_back s i at (x ∷ xs) e zero h =
    let p = first_in_order s i at x xs e in
    rw add-zero (omega arith)
in_order_back s i at (x ∷ xs) e (suc k) h =
    let p = first_in_order s i at x xs e in
    rw (add-suc i k, ← suc-add i k) (in_order_back s (suc i) (at + count s i * x.size) xs p.2 k (le_of_suc-le-suc h))

-- the file has room for what stands behind the sections
pub in_order_room : (s : List ℕ) (i at : ℕ) (xs : List Bound) → in_order s i at xs ≡ true → tail_size s ≤ length s
in_order_room s i at [] e = omega (arith, last_in_order s i at e)
in_order_room s i at (x ∷ xs) e = in_order_room s (suc i) _ xs (first_in_order s i at x xs e).2

-- ---- the loop: the tables of the code, and the tests that are left from section i on

abbrev pub mosts : List ℕ
mosts = 512 ∷ 64 ∷ 64 ∷ 1024 ∷ 8 ∷ 8 ∷ 512 ∷ []

abbrev pub sizes : List ℕ
sizes = 8 ∷ 8 ∷ 4 ∷ 16 ∷ 4 ∷ 8 ∷ 66 ∷ []

no_bound : Bound
no_bound = record { most = 0; size = 0 }

-- how many sections there are
abbrev pub sections : List ℕ → ℕ
sections s = cond (remembers s) 7 6

-- of the first sections of a list, where the tables say what it says of each
turn : (s : List ℕ) (i at : ℕ) (xs : List Bound) → i < length xs → get_or mosts i 0 ≡ (get_or xs i no_bound).most → get_or sizes i 0 ≡ (get_or xs i no_bound).size
    → in_order s i at (drop i xs)
    ≡ eqb (distance s i + at) (length s) && (leb (count s i) (get_or mosts i 0) && in_order s (i + 1) (at + count s i * get_or sizes i 0) (drop (i + 1) xs))
unfolding in_order
turn s i at xs h most size = rw (most, size, add-one i, drop-cons xs i no_bound h)

-- of all sections of a file
module _ (s : List ℕ) (at : ℕ) where
  abbrev turns : ℕ → List Bound → Type 0
  turns i xs =
      in_order s i at (drop i xs)
      ≡ eqb (distance s i + at) (length s) && (leb (count s i) (get_or mosts i 0) && in_order s (i + 1) (at + count s i * get_or sizes i 0) (drop (i + 1) xs))

  turn_of : (i : ℕ) (x : Bool) → i < cond x 7 6 → turns i (cond x seven_bounds six_bounds)
  unfolding six_bounds cells_format regions_format rights_format nodes_format programs_format triggers_format labels_format no_bound
  turn_of i true h = turn s i at seven_bounds h (get_or-map (λ (x : Bound). x.most) seven_bounds i no_bound) (get_or-map (λ (x : Bound). x.size) seven_bounds i no_bound)
  turn_of i false h =
      turn s i at six_bounds h
      (get_or-append (512 ∷ 64 ∷ 64 ∷ 1024 ∷ 8 ∷ 8 ∷ []) (512 ∷ []) 0 i h ∙ get_or-map (λ (x : Bound). x.most) six_bounds i no_bound)
      (get_or-append (8 ∷ 8 ∷ 4 ∷ 16 ∷ 4 ∷ 8 ∷ []) (66 ∷ []) 0 i h ∙ get_or-map (λ (x : Bound). x.size) six_bounds i no_bound)

  pub in_order_turn : (i : ℕ) → i < sections s → turns i (bounds s)
  in_order_turn i h = turn_of i (remembers s) h

  end_of : (x : Bool) → in_order s (cond x 7 6) at (drop (cond x 7 6) (cond x seven_bounds six_bounds)) ≡ eqb (at + tail_size s) (length s)
  unfolding in_order six_bounds
  end_of true = refl
  end_of false = refl

  pub in_order_end : in_order s (sections s) at (drop (sections s) (bounds s)) ≡ eqb (at + tail_size s) (length s)
  in_order_end = end_of (remembers s)

-- each entry of a table is at most m, by a test that computes
at_most : ℕ → List ℕ → Bool
at_most m [] = true
at_most m (x ∷ l) = leb x m && at_most m l

entry_le : (m : ℕ) (l : List ℕ) → at_most m l ≡ true → (i : ℕ) → get_or l i 0 ≤ m
unfolding at_most
entry_le m [] e i = zero-le
entry_le m (x ∷ l) e zero = leb-true x m (both (leb x m) (at_most m l) e).0
entry_le m (x ∷ l) e (suc i) = entry_le m l (both (leb x m) (at_most m l) e).1 i

pub size_le : (i : ℕ) → get_or sizes i 0 ≤ 66
unfolding at_most
size_le i = entry_le 66 sizes refl i
