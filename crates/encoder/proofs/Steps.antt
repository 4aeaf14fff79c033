-- The steps that write label records and what stands behind them. Assumes nothing.
use mathlib.Core.Path.{◌≡◌, refl, sym, ap, ◌∙◌}
use mathlib.Core.List.{List, [], ◌∷◌, ◌++◌}
use mathlib.Core.Bool.{cond}
use Prim.Native.Nat.{ℕ, zero, suc, ◌+◌, ◌-◌, ◌*◌, ◌/◌, ◌%◌, ◌≤◌, ◌<◌}
use native.Mathlib.Nat.{add-zero, add_comm, mul-le-mul}
use native.Mathlib.Numerals.{add-one}
use native.Mathlib.Omega.{arith}
use lib.Dec.{eqb}
use lib.ListN.{length, get_or, take, drop, length-append, length-take, length-drop, get_or-append}
use lib.Seq.{drop-cons}
use borrow.Author.Tests.{ne_eqb}
use Rattle.book.specs.Bytes.{two, four, eight}
use Rattle.book.specs.Records.{labels_format}
use Rattle.book.specs.Layout.{count}
use Rattle.book.specs.Start.{tabulate}
use Rattle.book.specs.Encode.{Extent, distance_to_end, pairs, label_record}
use Rattle.book.proofs.Sections.{size_le as seven_le}
use Rattle.book.proofs.Tabulate.{table_at}
use Rattle.encoder.proofs.Codec.{four_low}
use Rattle.encoder.specs.Steps.{sized, six_like, tail_with}
use Rattle.encoder.proofs.Stores.{Stored, stored, stored_none, stored_behind, stored_before}
use Rattle.encoder.proofs.Stores.{same_length as stored_length}

pub part_length : (s : List ℕ) (from n : ℕ) → from + n ≤ length s → length (take n (drop from s)) ≡ n
part_length s from n h = simp (length-take, length-drop) (omega arith)

-- ---- label records

-- the bytes of n words from word i on
abbrev pub word_bytes : List ℕ → ℕ → ℕ → List ℕ
word_bytes labels i zero = []
word_bytes labels i (suc n) = word_bytes labels i n ++ eight (get_or labels (i + n) 0)

length_words : (labels : List ℕ) (i n : ℕ) → length (word_bytes labels i n) ≡ 8 * n
length_words labels i zero = refl
length_words labels i (suc n) = length-append (word_bytes labels i n) (eight (get_or labels (i + n) 0)) ∙ omega (arith, length_words labels i n)

-- one word more
pub words_turn : (labels : List ℕ) (i n : ℕ) {old out : List ℕ} {at : ℕ} → Stored old at (word_bytes labels i n) out → (out' : List ℕ) → at + 8 * n + 8 ≤ length old
    → out' ≡ take (at + 8 * n) out ++ eight (get_or labels (i + n) 0) ++ drop (at + 8 * n + 8) out → Stored old at (word_bytes labels i (n + 1)) out'
words_turn labels i n {old} {out} {at} v out' room q =
    rw (add-one n)
    (stored_behind v (stored out (at + 8 * n) _ out' 8 refl (omega (arith, stored_length v)) q) (ap (λ (k : ℕ). at + k) (sym (length_words labels i n))))

-- the place, and behind it the eight words
pub label_stored : (labels o₀ o₁ o₂ : List ℕ) (at p : ℕ) → at + 66 ≤ length o₀ → o₁ ≡ take at o₀ ++ two p ++ drop (at + 2) o₀
    → Stored o₁ (at + 2) (word_bytes labels (8 * p) 8) o₂ → Stored o₀ at (labels_format.write (label_record labels p)) o₂
unfolding labels_format
label_stored labels o₀ o₁ o₂ at p room e v =
    rw (add-zero (8 * p)) at (stored_behind (stored o₀ at (two p) o₁ 2 refl (omega arith) e) v refl)

-- ---- two parts

pub both_stored : (o₀ o₁ o₂ u w : List ℕ) (at n m to : ℕ) → length u ≡ n → length w ≡ m → at + n ≡ to → to + m ≤ length o₀
    → o₁ ≡ take at o₀ ++ u ++ drop (at + n) o₀ → o₂ ≡ take to o₁ ++ w ++ drop (to + m) o₁ → Stored o₀ at (u ++ w) o₂
both_stored o₀ o₁ o₂ u w at n m to p q t room e f =
    let first = stored o₀ at u o₁ n p (omega arith) e in
    stored_behind first (stored o₁ to w o₂ m q (omega (arith, stored_length first)) f) (omega arith)

-- a number of 64 bits
pub word_stored : (o₀ o₁ o₂ : List ℕ) (at n : ℕ) → at + 8 ≤ length o₀ → o₁ ≡ take at o₀ ++ four (n % 4294967296) ++ drop (at + 4) o₀
    → o₂ ≡ take (at + 4) o₁ ++ four (n / 4294967296) ++ drop (at + 4 + 4) o₁ → o₂ ≡ take at o₀ ++ eight n ++ drop (at + 8) o₀
word_stored o₀ o₁ o₂ at n room e f =
    (both_stored o₀ o₁ o₂ (four (n % 4294967296)) (four (n / 4294967296)) at 4 4 (at + 4) refl refl refl (omega arith) e f).is
    ∙ ap (λ (l : List ℕ). take at o₀ ++ (l ++ four (n / 4294967296)) ++ drop (at + 8) o₀) (four_low n)

-- ---- the pairs

-- the bytes of a record, by section
abbrev pub sizes : List ℕ
sizes = 8 ∷ 8 ∷ 4 ∷ 16 ∷ 4 ∷ 8 ∷ []

pub size_le : (i : ℕ) → i < 6 → get_or sizes i 0 ≤ 66
size_le i h = rw (← get_or-append sizes (66 ∷ []) 0 i h) (seven_le i)

module _ (s : List ℕ) (cells : ℕ) where
  abbrev six : List Extent
  six = six_like s cells

  -- a section after the cells
  later : (i : ℕ) → 0 < i → i < 6 → get_or six i (sized 0 0) ≡ sized (get_or sizes i 0) (count s i)
  unfolding tabulate
  later i l h =
      let other : i ≡ 0 → ⊥ = λ e. omega arith in
      table_at (λ k. sized (get_or sizes k 0) (cond (eqb k 0) cells (count s k))) 6 six refl i (sized 0 0) h ∙ rw (ne_eqb i 0 other)

  pub rest_from : (i : ℕ) → 0 < i → i < 6 → drop i six ≡ sized (get_or sizes i 0) (count s i) ∷ drop (i + 1) six
  rest_from i l h = rw (add-one i) (drop-cons six i (sized 0 0) h ∙ rw (later i l h))

  -- the pairs from section i on are written, and the distance to the first of them is known
  pub record Paired (behind : ℕ) (old : List ℕ) (at : ℕ) (out : List ℕ) (distance i : ℕ) : Type 0 where
    pub left : 0 < i
    pub upto : i ≤ 6
    pub small : distance ≤ 60000 + (6 - i) * 4325376
    pub distance_is : distance ≡ distance_to_end behind (drop i six)
    pub pairs_are : Stored old (at + 4 * i) (pairs behind (drop i six)) out

  pub paired_none : (behind : ℕ) (old : List ℕ) (at : ℕ) → behind ≤ 60000 → at + 24 ≤ length old → Paired behind old at old behind 6
  unfolding distance_to_end pairs
  paired_none behind old at h room = record { left = omega arith; upto = omega arith; small = omega arith; distance_is = refl; pairs_are = stored_none old (at + 24) room }

  module _ {behind at distance : ℕ} {old out : List ℕ} where
    -- one pair more
    pub paired_turn : {j : ℕ} → Paired behind old at out distance j → (i d : ℕ) (out' : List ℕ) → 0 < i → j ≡ i + 1 → count s i < 65536 → d ≡ distance + count s i * get_or sizes i 0
        → out' ≡ take (at + 4 * i) out ++ (two d ++ two (count s i)) ++ drop (at + 4 * i + 4) out → Paired behind old at out' d i
    unfolding distance_to_end pairs
    paired_turn {j} p i d out' l e few q o =
        let size = size_le i (omega (arith, p.upto)) in
        let bytes : count s i * get_or sizes i 0 ≤ 65536 * 66 = mul-le-mul {n₂ = 65536} (omega arith) size in
        let rest = rest_from i l (omega (arith, p.upto)) in
        let tail : drop j six ≡ drop (i + 1) six = ap (λ (k : ℕ). drop k six) e in
        let sum : d ≡ count s i * get_or sizes i 0 + distance_to_end behind (drop (i + 1) six) = rw (← tail, ← p.distance_is) (omega arith) in
        let here = stored out (at + 4 * i) (two d ++ two (count s i)) out' 4 refl (omega (arith, p.pairs_are.fits, stored_length p.pairs_are)) o in record {
          left = l;
          upto = omega (arith, p.upto);
          small = omega (arith, p.small, p.upto);
          distance_is = sum ∙ rw rest;
          pairs_are =
              rw (rest, ← sum)
              (rw tail at (stored_before p.pairs_are here (omega arith)));
        }

    -- the pair of the cells comes last
    pub paired_done : {j : ℕ} → Paired behind old at out distance j → j ≤ 1 → (whole : ℕ) (out' : List ℕ) → whole ≡ distance + cells * 8
        → out' ≡ take at out ++ (two whole ++ two cells) ++ drop (at + 4) out
        → (whole ≡ distance_to_end behind six) × (out' ≡ take at old ++ pairs behind six ++ drop (at + 24) old)
    unfolding distance_to_end pairs
    paired_done {j} p h whole out' q o =
        let e : j ≡ 1 = omega (arith, p.left) in
        let tail : drop j six ≡ drop 1 six = ap (λ (k : ℕ). drop k six) e in
        let sum : whole ≡ cells * 8 + distance_to_end behind (drop 1 six) =
        q ∙ add_comm distance (cells * 8) ∙ ap (λ (n : ℕ). cells * 8 + n) (p.distance_is ∙ ap (distance_to_end behind) tail) in
        let here = stored out at (two whole ++ two cells) out' 4 refl (omega (arith, p.pairs_are.fits, stored_length p.pairs_are)) o in
        let all : Stored old at ((two whole ++ two cells) ++ pairs behind (drop 1 six)) out' = rw tail at (stored_before p.pairs_are here (omega arith)) in
        (sum, all.is ∙ ap (λ (d : ℕ). take at old ++ (two d ++ two cells ++ pairs behind (drop 1 six)) ++ drop (at + 24) old) sum)

-- ---- what stands behind the label records

pub length_tail : (s : List ℕ) (cells labels : ℕ) → length (tail_with (six_like s cells) labels) ≡ 40
unfolding pairs
length_tail s cells labels = refl

pub tail_steps : (s : List ℕ) (at cells labels whole : ℕ) (o₀ o₁ o₂ o₃ o₄ : List ℕ) → at + 40 ≤ length o₀
    → let behind : ℕ = labels * 66 + 40 in
    o₁ ≡ take at o₀ ++ (two behind ++ two labels) ++ drop (at + 4) o₀
    → o₂ ≡ take (at + 4) o₁ ++ (66 ∷ 75 ∷ 87 ∷ 83 ∷ 2 ∷ 0 ∷ 0 ∷ 0 ∷ []) ++ drop (at + 4 + 8) o₁
    → whole ≡ distance_to_end behind (six_like s cells)
    → o₃ ≡ take (at + 12) o₂ ++ pairs behind (six_like s cells) ++ drop (at + 12 + 24) o₂
    → o₄ ≡ take (at + 36) o₃ ++ four whole ++ drop (at + 36 + 4) o₃
    → o₄ ≡ take at o₀ ++ tail_with (six_like s cells) labels ++ drop (at + 40) o₀
unfolding distance_to_end pairs
tail_steps s at cells labels whole o₀ o₁ o₂ o₃ o₄ room e₁ e₂ w e₃ e₄ =
    let v₁ = stored o₀ at _ o₁ 4 refl (omega arith) e₁ in
    let v₂ = stored_behind v₁ (stored o₁ (at + 4) _ o₂ 8 refl (omega (arith, stored_length v₁)) e₂) refl in
    let v₃ = stored_behind v₂ (stored o₂ (at + 12) _ o₃ 24 refl (omega (arith, stored_length v₂)) e₃) refl in
    let v₄ = stored_behind v₃ (stored o₃ (at + 36) _ o₄ 4 refl (omega (arith, stored_length v₃)) (rw w at e₄)) refl in
    v₄.is
