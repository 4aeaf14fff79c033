-- What the stores of a posting leave of the state, and to what a stop would take the cells back. Assumes nothing.
use mathlib.Core.Path.{◌≡◌, refl, sym, ◌∙◌}
use mathlib.Core.List.{List}
use mathlib.Core.Bool.{Bool, true, false, true≢false, cond}
use Prim.Native.Nat.{ℕ, ◌<◌}
use native.Mathlib.Omega.{arith}
use lib.IntN.{ℤ, pos}
use lib.ListN.{length, get_or, set}
use lib.Seq.{get_or-set_other}
use Rattle.places.specs.Sets.{has, empty}
use Rattle.places.proofs.Sets.{has_below, has_empty}
use Rattle.monitor.specs.Labelled.{Label}
use Rattle.machine.specs.Store.{row_at, cells_held, began, undo_of}
use Rattle.machine.specs.declared.lent.Sets.{Sets}
use Rattle.machine.proofs.Stores.{row_other, undo_same, written}
use Rattle.undo.specs.Undo.{Begins}

-- a place that is touched is one of the 512
pub touched_below : (row : Label) (q : ℕ) → length row ≡ 8 → has row q ≡ true → q < 512
touched_below row q l e = omega (arith, has_below row q e)

-- ---- the write of a cell

module _ (sets : Sets) (q event : ℕ) (label : Label) (h : q < 512) (l : length sets.present ≡ 8) (long : length sets.labels ≡ 512) where
  -- of a cell that is touched it changes nothing that a stop would take back
  pub undo_written : (amounts : List ℤ) (z : ℤ) → has sets.posting.touched q ≡ true
      → undo_of (set amounts q z) (written sets q event label h l long) ≡ undo_of amounts sets
  unfolding began
  undo_written amounts z touched =
      undo_same amounts (set amounts q z) sets (written sets q event label h l long) refl (λ j. at j (has sets.posting.touched j) refl)
    where
      at : (j : ℕ) (t : Bool) → has sets.posting.touched j ≡ t → began (set amounts q z) (written sets q event label h l long) j ≡ began amounts sets j
      at j true t = rw t
      at j false t =
          let d : j ≡ q → ⊥ = λ e. true≢false (sym touched ∙ rw e at t) in
          rw (t, get_or-set_other amounts q j z (pos 0) d, row_other sets.labels q label j d)

-- ---- a posting that begins

pub begins : (sets : Sets) → Begins sets (record {
  present = sets.present;
  public = sets.public;
  read = sets.read;
  write = sets.write;
  labels = sets.labels;
  tested = sets.tested;
  bound = sets.bound;
  posting = record {
    under_way = true;
    touched = empty 8;
    present = sets.present;
    amounts = sets.posting.amounts;
    labels = sets.posting.labels;
  };
})
unfolding began cells_held
begins sets = record {
  same = λ amounts. record { cells_same = refl; rights_same = refl; public_same = refl };
  under_way = refl;
  began_is = λ amounts i q. at amounts q i;
}
  where
    at : (amounts : List ℤ) (q : ℕ) → record {
      val = record { present = has sets.present q; amount = cond (has (empty 8) q) (get_or sets.posting.amounts q (pos 0)) (get_or amounts q (pos 0)) };
      lab = cond (has (empty 8) q) (row_at sets.posting.labels q) (row_at sets.labels q);
    } ≡ cells_held amounts sets q
    at amounts q = rw (has_empty 8 q)
