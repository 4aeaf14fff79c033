-- Loading the labels: one record more, from the last to the first. Assumes nothing.
use mathlib.Core.Path.{◌≡◌, sym, ap, ◌∙◌}
use mathlib.Core.List.{List}
use Prim.Native.Nat.{ℕ, ◌-◌, ◌+◌, ◌*◌, ◌≤◌, ◌<◌}
use lib.ListN.{length}
use Rattle.labels.specs.Labels.{set_label, labels_by, own_labels}
use Rattle.labels.proofs.Labels.{length_by, by_cong, set_label_by}
use Rattle.book.specs.Records.{LabelRecord, label_of, labels_format}
use Rattle.book.specs.Layout.{label_section, decode}
use Rattle.book.specs.Refusals.{verdict}
use Rattle.book.specs.Start.{start_labels}
use Rattle.book.specs.declared.Section.{Section}
use Rattle.std.specs.Prelude.{Ok}
use Rattle.book.proofs.Remembered.{length_remembered}
use Rattle.label_records.proofs.Turns.{remembered_from, Reading, reading_begins, reading_turn, turn_place, remembered_none, remembered_turn, remembered_all}

-- the labels that the records from `label` on give, and elsewhere each cell's own place alone
pub record Labelling (s : List ℕ) (start : ℕ) (labels : List ℕ) (label : ℕ) : Type 0 where
  pub reading : Reading s start label
  pub labels_are : labels ≡ labels_by (remembered_from s label) 512

pub labelling_length : {s labels : List ℕ} {start label : ℕ} → Labelling s start labels label → length labels ≡ 4096
labelling_length {s} {labels} {start} {label} l = ap length l.labels_are ∙ length_by (remembered_from s label) (length_remembered _) 512

module _ (s : List ℕ) (v : verdict s ≡ Ok tt) where
  pub labelling_none : {x : Section} → x ≡ label_section s → {labels : List ℕ} → labels ≡ own_labels 512 → Labelling s x.start labels x.count
  labelling_none e o = record { reading = reading_begins s v e; labels_are = o ∙ by_cong _ _ 512 (λ p h. remembered_none s v e p) }

  pub labelling_turn : {start label : ℕ} {labels : List ℕ} → Labelling s start labels label → 0 < label
      → let r : LabelRecord = labels_format.read s (start + (label - 1) * 66) in
      (place : ℕ) (words : List ℕ) → place ≡ r.place → words ≡ label_of r → Labelling s start (set_label labels place words) (label - 1)
  labelling_turn {start} {label} {labels} l h place words p w =
      let r : LabelRecord = labels_format.read s (start + (label - 1) * 66) in record {
        reading = reading_turn s v l.reading h;
        labels_are =
            rw (p, w, l.labels_are)
            (set_label_by (remembered_from s label) (length_remembered _) r.place (label_of r) 512 (turn_place s v l.reading h)
            ∙ by_cong _ _ 512 (λ q b. sym (remembered_turn s v l.reading h q)));
      }

  pub labelling_done : {start label : ℕ} {labels : List ℕ} → Labelling s start labels label → label ≤ 0 → labels ≡ start_labels (decode s)
  unfolding start_labels
  labelling_done l h = l.labels_are ∙ by_cong _ _ 512 (λ p b. remembered_all s v h p)
