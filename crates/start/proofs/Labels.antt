-- The labels at the start: one label record more, from the last to the first. Assumes nothing.
use mathlib.Core.Path.{◌≡◌, refl, sym, ◌∙◌}
use mathlib.Core.List.{List}
use Prim.Native.Nat.{ℕ, ◌+◌, ◌-◌, ◌*◌, ◌≤◌, ◌<◌}
use native.Mathlib.Decide.{ℕ_discrete}
use native.Mathlib.Omega.{arith}
use lib.ListN.{length, set}
use borrow.Author.Tests.{eq-eqb, ne_eqb}
use Rattle.places.specs.Sets.{single}
use Rattle.book.specs.Records.{LabelRecord, label_of, labels_format}
use Rattle.book.specs.Layout.{label_section, decode}
use Rattle.book.specs.Refusals.{verdict}
use Rattle.book.specs.Start.{remembered}
use Rattle.book.specs.declared.Section.{Section}
use Rattle.std.specs.Prelude.{Ok}
use Rattle.label_records.proofs.Turns.{remembered_from, Reading, reading_begins, reading_turn, turn_place, remembered_none, remembered_turn, remembered_all}
use Rattle.machine.specs.Store.{row_at}
use Rattle.machine.proofs.Stores.{row_same, row_other}

-- the labels that the records from `label` on give, and elsewhere each cell's own place alone
pub record Labelling (s : List ℕ) (start : ℕ) (labels : List (List ℕ)) (label : ℕ) : Type 0 where
  pub reading : Reading s start label
  pub labels_are : (place : ℕ) → place < 512 → row_at labels place ≡ remembered_from s label place

module _ (s : List ℕ) (v : verdict s ≡ Ok tt) where
  pub labelling_none : {x : Section} → x ≡ label_section s → {labels : List (List ℕ)}
      → ((place : ℕ) → place < 512 → row_at labels place ≡ single 8 place) → Labelling s x.start labels x.count
  labelling_none e own = record {
    reading = reading_begins s v e;
    labels_are = λ p h. own p h ∙ remembered_none s v e p;
  }

  pub labelling_turn : {start label : ℕ} {labels : List (List ℕ)} → Labelling s start labels label → 0 < label → length labels ≡ 512
      → let r : LabelRecord = labels_format.read s (start + (label - 1) * 66) in
      (place : ℕ) (words : List ℕ) → place ≡ r.place → words ≡ label_of r → Labelling s start (set labels place words) (label - 1)
  labelling_turn {start} {label} {labels} l h long place words p w =
      let near : place < 512 = rw p (turn_place s v l.reading h) in record {
        reading = reading_turn s v l.reading h;
        labels_are = λ q b. row near q b (ℕ_discrete q place);
      }
    where
      row : place < 512 → (q : ℕ) → q < 512 → Dec (q ≡ place) → row_at (set labels place words) q ≡ remembered_from s (label - 1) q
      row near q b (yes e) =
          rw (e, remembered_turn s v l.reading h place, ← p, eq-eqb place place refl)
          (row_same labels place words (omega (arith, long)) ∙ w)
      row near q b (no d) =
          rw (remembered_turn s v l.reading h q, ← p, ne_eqb place q (λ e. d (sym e)))
          (row_other labels place words q d ∙ l.labels_are q b)

  pub labelling_done : {start label : ℕ} {labels : List (List ℕ)} → Labelling s start labels label → label ≤ 0
      → (place : ℕ) → place < 512 → row_at labels place ≡ remembered (decode s).labels place
  labelling_done l h p b = l.labels_are p b ∙ remembered_all s v h p
