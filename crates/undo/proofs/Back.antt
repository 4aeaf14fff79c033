-- A posting that is taken back, and one that ends. Assumes nothing.
use mathlib.Core.Path.{◌≡◌, refl, ap, ◌∙◌}
use mathlib.Core.List.{List}
use mathlib.Core.Bool.{Bool, true, false, not}
use Prim.Native.Nat.{ℕ, ◌+◌, ◌≤◌, ◌<◌}
use native.Mathlib.Decide.{ℕ_discrete, dec_lt}
use native.Mathlib.Nat.{not-suc-le-zero}
use native.Mathlib.Omega.{arith}
use lib.IntN.{ℤ, pos}
use lib.ListN.{length, get_or, set, length-set}
use lib.Seq.{get_or-set_same, get_or-set_other}
use Rattle.std.specs.Prelude.{Ok, Err}
use Rattle.places.specs.Sets.{has}
use Rattle.machine.specs.Store.{row_at, cells_held, began}
use Rattle.machine.specs.Promises.{stopped}
use Rattle.machine.specs.declared.lent.Sets.{Sets}
use Rattle.machine.proofs.Stores.{row_same, row_other}
use Rattle.undo.specs.Undo.{TakesBack, Ends}
use Rattle.undo.proofs.Undo.{touched_below}

-- ---- taken back, place by place

-- sets with these labels of the cells
abbrev with_labels : Sets → List (List ℕ) → Sets
with_labels sets labels = record {
  present = sets.present;
  public = sets.public;
  read = sets.read;
  write = sets.write;
  labels = labels;
  tested = sets.tested;
  bound = sets.bound;
  posting = sets.posting;
}

-- the cells of the first places are what they were, the others are still what they are, and of the sets only labels are stored
pub record Back (amounts₀ : List ℤ) (sets₀ : Sets) (place : ℕ) (amounts : List ℤ) (sets : Sets) : Type 0 where
  pub long_amounts : length amounts ≡ 512
  pub long : length sets.labels ≡ 512
  pub others : sets ≡ with_labels sets₀ sets.labels
  pub amounts_back : (q : ℕ) → q < place → get_or amounts q (pos 0) ≡ (began amounts₀ sets₀ q).val.amount
  pub labels_back : (q : ℕ) → q < place → row_at sets.labels q ≡ (began amounts₀ sets₀ q).lab
  pub amounts_still : (q : ℕ) → place ≤ q → get_or amounts q (pos 0) ≡ get_or amounts₀ q (pos 0)
  pub labels_still : (q : ℕ) → place ≤ q → row_at sets.labels q ≡ row_at sets₀.labels q

module _ (amounts₀ : List ℤ) (sets₀ : Sets) where
  pub back_none : length amounts₀ ≡ 512 → length sets₀.labels ≡ 512 → Back amounts₀ sets₀ 0 amounts₀ sets₀
  back_none la long = record {
    long_amounts = la;
    long = long;
    others = refl;
    amounts_back = λ q h. absurd (not-suc-le-zero h);
    labels_back = λ q h. absurd (not-suc-le-zero h);
    amounts_still = λ q h. refl;
    labels_still = λ q h. refl;
  }

  -- the next cell is not touched
  pub back_other : {place : ℕ} {amounts : List ℤ} {sets : Sets} → Back amounts₀ sets₀ place amounts sets → has sets₀.posting.touched place ≡ false
      → Back amounts₀ sets₀ (place + 1) amounts sets
  unfolding began
  back_other {place} {amounts} {sets} b t = record {
    long_amounts = b.long_amounts;
    long = b.long;
    others = b.others;
    amounts_back = λ q h. amount_at q (ℕ_discrete q place) h;
    labels_back = λ q h. label_at q (ℕ_discrete q place) h;
    amounts_still = λ q h. b.amounts_still q (omega arith);
    labels_still = λ q h. b.labels_still q (omega arith);
  }
    where
      amount_at : (q : ℕ) → Dec (q ≡ place) → q < place + 1 → get_or amounts q (pos 0) ≡ (began amounts₀ sets₀ q).val.amount
      amount_at q (yes e) h = rw (e, t) (b.amounts_still place (omega arith))
      amount_at q (no d) h = b.amounts_back q (omega (arith, d))

      label_at : (q : ℕ) → Dec (q ≡ place) → q < place + 1 → row_at sets.labels q ≡ (began amounts₀ sets₀ q).lab
      label_at q (yes e) h = rw (e, t) (b.labels_still place (omega arith))
      label_at q (no d) h = b.labels_back q (omega (arith, d))

  -- the next cell is touched: what is kept of it is stored
  pub back_touched : {place : ℕ} {amounts : List ℤ} {sets : Sets} → Back amounts₀ sets₀ place amounts sets → place < 512 → has sets₀.posting.touched place ≡ true
      → {amount : ℤ} → amount ≡ get_or sets.posting.amounts place (pos 0)
      → Back amounts₀ sets₀ (place + 1) (set amounts place amount) (with_labels sets (set sets.labels place (row_at sets.posting.labels place)))
  unfolding began
  back_touched {place} {amounts} {sets} b lt t {amount} is = record {
    long_amounts = length-set amounts place amount ∙ b.long_amounts;
    long = length-set sets.labels place label ∙ b.long;
    others = ap (λ s. with_labels s (set sets.labels place label)) b.others;
    amounts_back = λ q h. amount_at q (ℕ_discrete q place) h;
    labels_back = λ q h. label_at q (ℕ_discrete q place) h;
    amounts_still = λ q h. get_or-set_other amounts place q amount (pos 0) (λ e. omega (arith, e)) ∙ b.amounts_still q (omega arith);
    labels_still = λ q h. row_other sets.labels place label q (λ e. omega (arith, e)) ∙ b.labels_still q (omega arith);
  }
    where
      label : List ℕ
      label = row_at sets.posting.labels place

      posting_same : sets.posting ≡ sets₀.posting
      posting_same = ap (λ s. s.posting) b.others

      amount_at : (q : ℕ) → Dec (q ≡ place) → q < place + 1 → get_or (set amounts place amount) q (pos 0) ≡ (began amounts₀ sets₀ q).val.amount
      amount_at q (yes e) h =
          rw (e, t) (get_or-set_same amounts place amount (pos 0) (omega (arith, b.long_amounts)) ∙ is ∙ ap (λ k. get_or k.amounts place (pos 0)) posting_same)
      amount_at q (no d) h = get_or-set_other amounts place q amount (pos 0) d ∙ b.amounts_back q (omega (arith, d))

      label_at : (q : ℕ) → Dec (q ≡ place) → q < place + 1 → row_at (set sets.labels place label) q ≡ (began amounts₀ sets₀ q).lab
      label_at q (yes e) h = rw (e, t) (row_same sets.labels place label (omega (arith, b.long)) ∙ ap (λ k. row_at k.labels place) posting_same)
      label_at q (no d) h = row_other sets.labels place label q d ∙ b.labels_back q (omega (arith, d))

-- all places are passed; before, presence was stored for all of them
abbrev pub restored : Sets → Sets
restored sets = record {
  present = sets.posting.present;
  public = sets.public;
  read = sets.read;
  write = sets.write;
  labels = sets.labels;
  tested = sets.tested;
  bound = sets.bound;
  posting = sets.posting;
}

pub taken_back : (amounts₀ : List ℤ) (entry : Sets) → length entry.posting.touched ≡ 8 → {amounts : List ℤ} {sets : Sets}
    → Back amounts₀ (restored entry) 512 amounts sets → TakesBack amounts₀ entry amounts sets
unfolding cells_held began
taken_back amounts₀ entry eight {amounts} {sets} b = record {
  cells_are = λ i q. at q (dec_lt q 512) (has entry.posting.touched q) refl i;
  stays = record {
    rights_same = rw b.others;
    public_same = rw b.others;
    tested_same = rw b.others;
    bound_same = rw b.others;
  };
  idle_same = ap (λ s. not s.posting.under_way) b.others;
}
  where
    present_is : sets.present ≡ entry.posting.present
    present_is = ap (λ s. s.present) b.others

    at : (q : ℕ) → Dec (q < 512) → (t : Bool) → has entry.posting.touched q ≡ t → cells_held amounts sets q ≡ began amounts₀ entry q
    at q (yes h) t s = rw (present_is, b.amounts_back q h, b.labels_back q h)
    at q (no d) true s = absurd (d (touched_below entry.posting.touched q eight s))
    at q (no d) false s = rw (s, present_is, b.amounts_still q (omega (arith, d)), b.labels_still q (omega (arith, d)))

-- ---- the end

-- sets in which no posting is under way
abbrev pub over : Sets → Sets
over sets = record {
  present = sets.present;
  public = sets.public;
  read = sets.read;
  write = sets.write;
  labels = sets.labels;
  tested = sets.tested;
  bound = sets.bound;
  posting = record {
    under_way = false;
    touched = sets.posting.touched;
    present = sets.posting.present;
    amounts = sets.posting.amounts;
    labels = sets.posting.labels;
  };
}

module _ (amounts : List ℤ) (sets : Sets) where
  -- the posting is done
  pub ends_done : Ends (Ok tt) amounts sets amounts (over sets)
  unfolding cells_held
  ends_done = record {
    done = λ d. refl;
    stopped = λ d.
        let z : ◌≡◌ {A = ℕ} 0 1 = cc in
        absurd (omega arith);
    stays = record { rights_same = refl; public_same = refl; tested_same = refl; bound_same = refl };
    over = refl;
  }

  -- it stopped, and is taken back
  pub ends_stopped : {amounts' : List ℤ} {sets' : Sets} → TakesBack amounts (over sets) amounts' sets' → Ends (Err stopped) amounts sets amounts' sets'
  unfolding began
  ends_stopped t = record {
    done = λ d.
        let z : ◌≡◌ {A = ℕ} 0 1 = cc in
        absurd (omega arith);
    stopped = λ d. t.cells_are;
    stays = record {
      rights_same = t.stays.rights_same;
      public_same = t.stays.public_same;
      tested_same = t.stays.tested_same;
      bound_same = t.stays.bound_same;
    };
    over = t.idle_same;
  }
