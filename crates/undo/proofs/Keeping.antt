-- A cell that is kept: its place is marked, and what a stop would take back stays. Assumes nothing.
use mathlib.Core.Path.{◌≡◌, refl, sym, ◌∙◌}
use mathlib.Core.List.{List}
use mathlib.Core.Bool.{Bool, true, false, ◌&&◌, ◌||◌}
use Prim.Native.Nat.{ℕ, ◌/◌, ◌%◌, ◌^◌, ◌<◌}
use native.Mathlib.Decide.{ℕ_discrete}
use native.Mathlib.Omega.{arith}
use borrow.Author.Tests.{eq-eqb, ne_eqb, lt-ltb}
use lib.Bits.{bit_or, or_zero_r}
use lib.Dec.{ltb}
use lib.IntN.{ℤ, pos}
use lib.ListN.{length, get_or, set, length-set, get_or-replicate}
use lib.Seq.{ext_get_or, get_or-set_same, get_or-set_other}
use Rattle.places.specs.Sets.{has, empty, single, union}
use Rattle.places.proofs.Sets.{union_word, length_union, length_single, has_union, has_single}
use Rattle.places.proofs.Shapes.{single_word}
use Rattle.monitor.specs.Labelled.{Label}
use Rattle.machine.specs.Store.{row_at, began}
use Rattle.machine.specs.declared.lent.Sets.{Sets}
use Rattle.machine.proofs.Stores.{row_same, row_other, same_state, undo_same}
use Rattle.undo.specs.Undo.{Keeps}

-- one more place in a set of eight words: a store into the word that the place is in
module _ (touched : Label) (q : ℕ) (h : q < 512) (l : length touched ≡ 8) where
  abbrev with_place : Label
  with_place = set touched (q / 64) (bit_or (get_or touched (q / 64) 0) (get_or (single 8 q) (q / 64) 0))

  with_place_long : length with_place ≡ 8
  with_place_long = length-set touched (q / 64) _ ∙ l

  with_place_is : with_place ≡ union touched (single 8 q)
  with_place_is =
      ext_get_or 0 with_place (union touched (single 8 q)) (with_place_long ∙ sym (length_union touched (single 8 q) l (length_single 8 q))) (λ w b. at w (omega (arith, with_place_long)) (ℕ_discrete w (q / 64)))
    where
      at : (w : ℕ) → w < 8 → Dec (w ≡ q / 64) → get_or with_place w 0 ≡ get_or (union touched (single 8 q)) w 0
      at w b (yes e) = rw e (get_or-set_same touched (q / 64) _ 0 (omega arith) ∙ sym (union_word touched (single 8 q) (q / 64)))
      at w b (no d) =
          get_or-set_other touched (q / 64) w _ 0 d
          ∙ sym
          (union_word touched (single 8 q) w
          ∙ rw (single_word 8 q h, get_or-set_other (empty 8) (q / 64) w (2 ^ (q % 64)) 0 d, get_or-replicate {A = ℕ} 8 w 0 0 b) (or_zero_r (get_or touched w 0)))

  has_place : has touched q ≡ false → has with_place q ≡ true
  has_place new = rw (with_place_is, has_union touched (single 8 q) q, has_single 8 q q, new, lt-ltb q 512 h, eq-eqb q q refl)

  has_others : (j : ℕ) → (j ≡ q → ⊥) → has with_place j ≡ has touched j
  has_others j d = rw (with_place_is, has_union touched (single 8 q) j, has_single 8 q j, ne_eqb j q d) (none (has touched j) (ltb j 512))
    where
      none : (x y : Bool) → x || y && false ≡ x
      none true y = refl
      none false true = refl
      none false false = refl

-- the place is marked as touched, and its amount and its label are stored
module _ (amounts : List ℤ) (sets : Sets) (q : ℕ) (z : ℤ) (h : q < 512) (eight : length sets.posting.touched ≡ 8) where
  abbrev kept : Sets
  kept = record {
    present = sets.present;
    public = sets.public;
    read = sets.read;
    write = sets.write;
    labels = sets.labels;
    tested = sets.tested;
    bound = sets.bound;
    posting = record {
      under_way = sets.posting.under_way;
      touched = with_place sets.posting.touched q h eight;
      present = sets.posting.present;
      amounts = set sets.posting.amounts q z;
      labels = set sets.posting.labels q (row_at sets.labels q);
    };
  }

  -- what is kept of another place stays
  pub other_amount : (j : ℕ) → (j ≡ q → ⊥) → get_or kept.posting.amounts j (pos 0) ≡ get_or sets.posting.amounts j (pos 0)
  other_amount j d = get_or-set_other sets.posting.amounts q j z (pos 0) d

  pub keeps : has sets.posting.touched q ≡ false → length sets.posting.amounts ≡ 512 → length sets.posting.labels ≡ 512 → z ≡ get_or amounts q (pos 0)
      → Keeps amounts sets q kept
  unfolding began
  keeps new long_amounts long_labels amount_is = record {
    same = same_state amounts sets kept refl refl refl refl (λ j. refl);
    undo_same = undo_same amounts amounts sets kept refl (λ j. at j (ℕ_discrete j q));
    touched = here;
    eight = with_place_long sets.posting.touched q h eight;
  }
    where
      here : has kept.posting.touched q ≡ true
      here = has_place sets.posting.touched q h eight new

      at : (j : ℕ) → Dec (j ≡ q) → began amounts kept j ≡ began amounts sets j
      at j (yes e) =
          rw (e, here, new, get_or-set_same sets.posting.amounts q z (pos 0) (omega (arith, long_amounts)), amount_is, row_same sets.posting.labels q (row_at sets.labels q) (omega (arith, long_labels)))
      at j (no d) =
          rw (has_others sets.posting.touched q h eight j d, other_amount j d, row_other sets.posting.labels q (row_at sets.labels q) j d)
