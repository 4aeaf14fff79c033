-- Loading the cells: one record more, from the last to the first. Assumes nothing.
use mathlib.Core.Path.{◌≡◌, refl, sym, ap, ◌∙◌}
use mathlib.Core.List.{List, [], ◌∷◌}
use mathlib.Core.Bool.{Bool, true, false, ◌||◌, cond}
use mathlib.Core.Option.{Option, some}
use Prim.Native.Nat.{ℕ, suc, ◌+◌, ◌-◌, ◌*◌, ◌/◌, ◌%◌, ◌^◌, ◌≤◌, ◌<◌}
use native.Mathlib.Decide.{ℕ_discrete}
use native.Mathlib.Omega.{arith}
use lib.Bits.{bit_or}
use lib.Dec.{eqb}
use lib.IntN.{ℤ, pos}
use lib.ListN.{length, get_or, drop, set, replicate, length-set, get_or-replicate, length-replicate, drop_of_length-le}
use lib.Seq.{drop-cons, ext_get_or, get_or-set_same, get_or-set_other}
use borrow.Author.Tests.{ne_eqb}
use Rattle.places.specs.Sets.{set_of, single, union}
use Rattle.places.proofs.Sets.{length_set_of, length_single, length_union, union_set_of, union_word}
use Rattle.places.proofs.Shapes.{set_of_cong, set_of_none, single_word}
use Rattle.book.specs.Bytes.{le32, signed32}
use Rattle.book.specs.Records.{CellRecord, place_of, cells_format}
use Rattle.book.specs.Layout.{count, section, decode}
use Rattle.book.specs.Refusals.{no_cell, verdict}
use Rattle.book.specs.declared.Section.{Section}
use Rattle.std.specs.Prelude.{Ok}
use Rattle.book.proofs.Decoded.{count_cells, cell_read}
use Rattle.book.specs.Start.{tabulate, amount_at, or_zero, is_there, start_amounts, start_presence}
use Rattle.book.proofs.Accepted.{placed}
use Rattle.book.proofs.Tabulate.{length_tabulate, tabulate_at, tabulate_cong, set_tabulate}

-- the amounts and the presence words of some records
abbrev pub amounts_of : List CellRecord → List ℤ
amounts_of cs = tabulate (λ p. or_zero (amount_at cs p)) 512

abbrev pub presence_of : List CellRecord → List ℕ
presence_of cs = set_of 8 (λ p. is_there (amount_at cs p))

-- of no records
amounts_none : replicate 512 (pos 0) ≡ amounts_of []
unfolding amount_at
amounts_none =
    ext_get_or (pos 0) (replicate 512 (pos 0)) (tabulate (λ p. pos 0) 512) (length-replicate 512 (pos 0) ∙ sym (length_tabulate (λ p. pos 0) 512))
    (λ i h.
    let below : i < 512 = omega (arith, length-replicate 512 (pos 0)) in
    get_or-replicate 512 i (pos 0) (pos 0) below ∙ sym (tabulate_at (λ p. pos 0) 512 i (pos 0) below))

presence_none : replicate 8 0 ≡ presence_of []
unfolding amount_at
presence_none = sym (set_of_none 8)

-- ---- one record more

eqb_sym : (a b : ℕ) → eqb a b ≡ eqb b a
eqb_sym a b = go (ℕ_discrete a b)
  where
    go : Dec (a ≡ b) → eqb a b ≡ eqb b a
    go (yes e) = rw e
    go (no e) = ne_eqb a b e ∙ sym (ne_eqb b a (λ q. e (sym q)))

pub zero_if : (t : Bool) (z : ℤ) (x : Option ℤ) → cond t z (or_zero x) ≡ or_zero (cond t (some z) x)
zero_if true z x = refl
zero_if false z x = refl

there_if : (t : Bool) (z : ℤ) (x : Option ℤ) → t || is_there x ≡ is_there (cond t (some z) x)
there_if true z x = refl
there_if false z x = refl

amounts_turn : (c : CellRecord) (cs : List CellRecord) → set (amounts_of cs) (place_of c) c.amount ≡ amounts_of (c ∷ cs)
unfolding amount_at
amounts_turn c cs =
    set_tabulate (λ p. or_zero (amount_at cs p)) 512 (place_of c) c.amount
    ∙ tabulate_cong _ _ 512 (λ p h. zero_if (eqb (place_of c) p) c.amount (amount_at cs p))

presence_turn : (c : CellRecord) (cs : List CellRecord) → union (single 8 (place_of c)) (presence_of cs) ≡ presence_of (c ∷ cs)
unfolding amount_at single
presence_turn c cs =
    union_set_of 8 (λ p. eqb p (place_of c)) (λ p. is_there (amount_at cs p))
    ∙ set_of_cong _ _ 8 (λ p h. ap (λ (t : Bool). t || is_there (amount_at cs p)) (eqb_sym p (place_of c)) ∙ there_if (eqb (place_of c) p) c.amount (amount_at cs p))

-- ---- the loop: the records from `cell` on are loaded

pub record Loading (s : List ℕ) (start : ℕ) (amounts : List ℤ) (set : List ℕ) (cell : ℕ) : Type 0 where
  pub starts : start ≡ (section s 0).start
  pub inside : start + count s 0 * 8 ≤ length s
  pub upto : cell ≤ count s 0
  pub amounts_are : amounts ≡ amounts_of (drop cell (decode s).cells)
  pub set_is : set ≡ presence_of (drop cell (decode s).cells)

pub loading_length : {s words : List ℕ} {amounts : List ℤ} {start cell : ℕ} → Loading s start amounts words cell → length amounts ≡ 512
loading_length l = ap length l.amounts_are ∙ length_tabulate _ 512

pub loading_words : {s words : List ℕ} {amounts : List ℤ} {start cell : ℕ} → Loading s start amounts words cell → length words ≡ 8
loading_words l = ap length l.set_is ∙ length_set_of 8 _

-- a set with the bit of one place set
abbrev pub with_place : List ℕ → ℕ → List ℕ
with_place words p = set words (p / 64) (bit_or (2 ^ (p % 64)) (get_or words (p / 64) 0))

with_union : (words : List ℕ) (p : ℕ) → p < 512 → length words ≡ 8 → with_place words p ≡ union (single 8 p) words
with_union words p h e =
    ext_get_or 0 (with_place words p) (union (single 8 p) words) (length-set words _ _ ∙ e ∙ sym (length_union (single 8 p) words (length_single 8 p) e))
    (λ w l. go w (omega (arith, length-set words (p / 64) (bit_or (2 ^ (p % 64)) (get_or words (p / 64) 0)))) (ℕ_discrete w (p / 64)))
  where
    go : (w : ℕ) → w < 8 → Dec (w ≡ p / 64) → get_or (with_place words p) w 0 ≡ get_or (union (single 8 p) words) w 0
    go w l (yes q) =
        rw (union_word (single 8 p) words w, single_word 8 p (omega arith), q, get_or-set_same {A = ℕ} (replicate 8 0) (p / 64) (2 ^ (p % 64)) 0 (omega arith))
        (get_or-set_same words (p / 64) _ 0 (omega arith))
    go w l (no q) =
        rw (union_word (single 8 p) words w, single_word 8 p (omega arith), get_or-set_other {A = ℕ} (replicate 8 0) (p / 64) w (2 ^ (p % 64)) 0 q, get_or-replicate {A = ℕ} 8 w 0 0 l)
        (get_or-set_other words (p / 64) w _ 0 q)

module _ (s : List ℕ) (v : verdict s ≡ Ok tt) where
  pub loading_none : {x : Section} → x ≡ section s 0 → {amounts : List ℤ} → amounts ≡ replicate 512 (pos 0) → Loading s x.start amounts (replicate 8 0) x.count
  loading_none {x} e {amounts} a =
      let z = placed s v in
      let none : drop (count s 0) (decode s).cells ≡ [] = drop_of_length-le (decode s).cells {i = count s 0} (omega (arith, count_cells s)) in
      rw e (record {
        starts = refl;
        inside = omega (arith, z.cells_start, z.regions_start);
        upto = omega arith;
        amounts_are = a ∙ amounts_none ∙ ap amounts_of (sym none);
        set_is = presence_none ∙ ap presence_of (sym none);
      })

  pub loading_turn : {start cell : ℕ} {amounts : List ℤ} {words : List ℕ} → Loading s start amounts words cell → 0 < cell
      → let at : ℕ = start + (cell - 1) * 8 in
      (place : ℕ) (amount : ℤ) → place ≡ place_of (cells_format.read s at) → amount ≡ signed32 (le32 s (at + 4))
      → place < 512 → Loading s start (set amounts place amount) (with_place words place) (cell - 1)
  unfolding cells_format
  loading_turn {start} {cell} {amounts} {words} l h place amount p z b =
      let i : ℕ = cell - 1 in
      let c : CellRecord = cells_format.read s (start + i * 8) in
      let n : suc i ≡ cell = omega arith in
      let lt : i < count s 0 = omega (arith, l.upto) in
      let more : drop i (decode s).cells ≡ c ∷ drop cell (decode s).cells =
      drop-cons (decode s).cells i no_cell (omega (arith, count_cells s)) ∙ rw (n, cell_read s i no_cell lt, l.starts) in record {
        starts = l.starts;
        inside = l.inside;
        upto = omega (arith, l.upto);
        amounts_are = rw (l.amounts_are, p, z) (amounts_turn c (drop cell (decode s).cells) ∙ ap amounts_of (sym more));
        set_is = with_union words place b (loading_words l) ∙ rw (p, l.set_is) (presence_turn c (drop cell (decode s).cells) ∙ ap presence_of (sym more));
      }

  pub loading_done : {start cell : ℕ} {amounts : List ℤ} {words : List ℕ} → Loading s start amounts words cell → cell ≤ 0
      → (amounts ≡ start_amounts (decode s)) × (words ≡ start_presence (decode s))
  unfolding start_amounts start_presence
  loading_done {start} {cell} l h =
      let e : cell ≡ 0 = omega arith in
      (l.amounts_are ∙ rw e, l.set_is ∙ rw e)
