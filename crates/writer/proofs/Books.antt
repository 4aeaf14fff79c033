-- Writing the whole book: the parts of it, and the steps of the code. Assumes nothing.
use mathlib.Core.Path.{◌≡◌, refl, sym, ap, ◌∙◌}
use mathlib.Core.List.{List, ◌++◌, append_assoc}
use Prim.Native.Nat.{ℕ, ◌+◌, ◌-◌, ◌*◌, ◌/◌, ◌≤◌}
use native.Mathlib.Nat.{zero-add}
use native.Mathlib.Omega.{arith}
use lib.IntN.{ℤ}
use lib.ListN.{length, take, drop}
use Rattle.book.specs.Bytes.{Bytes}
use Rattle.book.specs.Records.{CellRecord, LabelRecord, cells_format, labels_format}
use Rattle.book.specs.Layout.{count, label_section, decode}
use Rattle.book.specs.Refusals.{verdict}
use Rattle.book.specs.Encode.{other_sections, tail_bytes, encode, cells_from, label_record, labels_from, with_cells}
use Rattle.std.specs.Prelude.{Ok}
use Rattle.book.proofs.Decoded.{count_regions, count_rights, count_nodes, count_programs, count_triggers}
use Rattle.book.proofs.Accepted.{placed, labels_inside}
use Rattle.writer.specs.Write.{rewritten}
use Rattle.encoder.specs.Steps.{six_like, tail_with}
use Rattle.encoder.proofs.Codec.{length_section, cells_codec, labels_codec}
use Rattle.encoder.proofs.Stores.{begun, begun_is, begun_more}
use Rattle.encoder.proofs.Steps.{part_length, length_tail}
use Rattle.encoder.proofs.Writes.{other_label, picked_few, cells_below, labels_below}
use Rattle.writer.proofs.Trailer.{Counts, counts_of, tail_of}
use Rattle.writer.proofs.Files.{tail_is, others_same, others_end, others_few}

module _ (s : List ℕ) (b : Bytes s) (v : verdict s ≡ Ok tt) (amounts : List ℤ) (presence labels : List ℕ) where
  abbrev pub cells : List CellRecord
  cells = cells_from amounts presence 512 0

  abbrev pub others_labels : List LabelRecord
  others_labels = labels_from labels 512 0

  abbrev pub counts : Counts
  counts = record {
    cells = length cells;
    regions = count s 1;
    rights = count s 2;
    nodes = count s 3;
    programs = count s 4;
    triggers = count s 5;
    labels = length others_labels;
  }

  pub new_counts : counts_of (with_cells amounts presence labels (decode s)) ≡ counts
  unfolding with_cells
  new_counts i = record {
    cells = length cells;
    regions = count_regions s i;
    rights = count_rights s i;
    nodes = count_nodes s i;
    programs = count_programs s i;
    triggers = count_triggers s i;
    labels = length others_labels;
  }

  abbrev start : ℕ
  start = (label_section s).start

  new_others : other_sections (with_cells amounts presence labels (decode s)) ≡ take (start - count s 0 * 8) (drop (count s 0 * 8) s)
  unfolding other_sections with_cells
  new_others = others_same s b v

  new_tail : tail_bytes (with_cells amounts presence labels (decode s)) ≡ tail_with (six_like s (length cells)) (length others_labels)
  new_tail = tail_is (with_cells amounts presence labels (decode s)) ∙ ap tail_of new_counts

  -- the book with other cells and labels, part by part
  rewritten_is : rewritten s amounts presence labels
      ≡ cells_below amounts presence 512 ++ take (start - count s 0 * 8) (drop (count s 0 * 8) s) ++ labels_below labels 512
      ++ tail_with (six_like s (length cells)) (length others_labels)
  unfolding rewritten encode with_cells
  rewritten_is =
      (λ i. cells_below amounts presence 512 ++ (new_others i ++ (labels_below labels 512 ++ new_tail i)))
      ∙ sym (append_assoc (cells_below amounts presence 512) _ _)
      ∙ sym (append_assoc (cells_below amounts presence 512 ++ take (start - count s 0 * 8) (drop (count s 0 * 8) s)) _ _)

  -- the numbers of the code: the cells' bytes end at `end`, the file's sections between stand from `others` to `till`, and the label records
  -- end at `to`
  module _ (end others till : ℕ) (few : end ≤ 4096) (x : others ≡ count s 0 * 8) (y : till ≡ start) (e₀ : end ≡ length (cells_below amounts presence 512)) where
    abbrev size : ℕ
    size = till - others

    abbrev at : ℕ
    at = end + size

    pub record Numbers : Type 0 where
      pub before : others ≤ till
      pub inside : others + size ≤ length s
      pub small : at ≤ 21344
      pub count_is : end / 8 ≡ length cells

    pub numbers : Numbers
    unfolding cells_format
    numbers =
        let n : end ≡ length cells * 8 = e₀ ∙ length_section cells_codec cells in
        let ends : count s 0 * 8 + (start - count s 0 * 8) ≡ start = others_end s b v in
        let short : start - count s 0 * 8 ≤ 17248 = others_few s b v in
        let room = labels_inside (placed s v) in
        record {
          before = rw (x, y) (omega (arith, ends));
          inside = rw (x, y) (omega (arith, ends, room));
          small = rw (x, y) (omega (arith, short));
          count_is = omega (arith, n);
        }

    module _ (to : ℕ) (e₁ : to ≡ at + length (labels_below labels 512)) where
      pub record LabelNumbers : Type 0 where
        pub after : at ≤ to
        pub number_is : (to - at) / 66 ≡ length others_labels
        pub few_labels : length others_labels ≤ 512
        pub small : to + 40 ≤ 60000

      pub label_numbers : LabelNumbers
      unfolding labels_format
      label_numbers =
          let n : length (labels_below labels 512) ≡ length others_labels * 66 = length_section labels_codec others_labels in
          let few : length others_labels ≤ 512 = picked_few (other_label labels) (label_record labels) 512 0 in
          let near : at ≤ 21344 = numbers.small in
          record { after = omega (arith, e₁); number_is = count_from at to (length others_labels) (e₁ ∙ ap (λ (k : ℕ). at + k) n); few_labels = few; small = sum_small at to (length others_labels) (e₁ ∙ ap (λ (k : ℕ). at + k) n) few near }
        where
          count_from : (a t k : ℕ) → t ≡ a + k * 66 → (t - a) / 66 ≡ k
          count_from a t k e = omega arith

          sum_small : (a t k : ℕ) → t ≡ a + k * 66 → k ≤ 512 → a ≤ 21344 → t + 40 ≤ 60000
          sum_small a t k e h l = omega arith

      -- the steps of the code: what they leave is the book, from byte 0 on
      pub book_steps : (o₀ o₁ o₂ o₃ o₄ : List ℕ) → 60000 ≤ length o₀ → o₁ ≡ cells_below amounts presence 512 ++ drop end o₀
          → o₂ ≡ take end o₁ ++ take size (drop others s) ++ drop (end + size) o₁
          → o₃ ≡ take at o₂ ++ labels_below labels 512 ++ drop to o₂
          → o₄ ≡ take to o₃ ++ tail_with (six_like s (end / 8)) ((to - at) / 66) ++ drop (to + 40) o₃
          → (to + 40 ≡ length (rewritten s amounts presence labels)) × (o₄ ≡ rewritten s amounts presence labels ++ drop (to + 40) o₀)
      book_steps o₀ o₁ o₂ o₃ o₄ room q₁ q₂ q₃ q₄ =
          let n = numbers in
          let m = label_numbers in
          let part : length (take size (drop others s)) ≡ size = part_length s others size n.inside in
          let v₁ = begun o₀ 0 end (cells_below amounts presence 512) o₁ (e₀ ∙ sym (zero-add _)) (omega arith) q₁ in
          let v₂ = begun_more v₁ (take size (drop others s)) o₂ size at part refl (omega (arith, n.small)) q₂ in
          let v₃ = begun_more v₂ (labels_below labels 512) o₃ (length (labels_below labels 512)) to refl (sym e₁) (omega (arith, m.small)) (q₃ ∙ ap (λ (k : ℕ). take at o₂ ++ labels_below labels 512 ++ drop k o₂) e₁) in
          let v₄ = begun_is (begun_more v₃ (tail_with (six_like s (end / 8)) ((to - at) / 66)) o₄ 40 (to + 40) (length_tail s (end / 8) ((to - at) / 66)) refl (omega (arith, m.small)) q₄) in
          let same : cells_below amounts presence 512 ++ take size (drop others s) ++ labels_below labels 512 ++ tail_with (six_like s (end / 8)) ((to - at) / 66) ≡ rewritten s amounts presence labels =
          (λ i.
          cells_below amounts presence 512 ++ take (y i - x i) (drop (x i) s) ++ labels_below labels 512 ++ tail_with (six_like s (n.count_is i)) (m.number_is i))
          ∙ sym rewritten_is in
          (v₄.0 ∙ zero-add _ ∙ ap length same, v₄.1 ∙ ap (λ (l : List ℕ). l ++ drop (to + 40) o₀) same)
