-- What writing gives C, by the writer's answer. Assumes nothing.
use mathlib.Core.Path.{◌≡◌, refl, ap}
use mathlib.Core.List.{List}
use mathlib.Core.Bool.{not}
use Prim.Native.Nat.{ℕ, ◌≤◌, ◌<◌}
use native.Mathlib.Omega.{arith}
use lib.Dec.{lit<, lit≤}
use lib.IntN.{ℤ, pos}
use lib.ListN.{length, get_or, length-append}
use Rattle.places.specs.Sets.{has}
use Rattle.labels.specs.Labels.{label_at, is_own}
use Rattle.book.specs.Records.{cells_format, regions_format, rights_format, nodes_format, programs_format, triggers_format, labels_format}
use Rattle.book.specs.Layout.{decode}
use Rattle.book.specs.Refusals.{number_of, verdict_values, need, verdict, Verdict}
use Rattle.book.specs.Encode.{six_extents, pairs, other_sections, tail_bytes, encode, cell_record, cells_from, label_record, labels_from, with_cells}
use Rattle.book.proofs.Accepted.{placed}
use Rattle.book.proofs.Decoded.{count_regions, count_rights, count_nodes, count_programs, count_triggers}
use Rattle.book.proofs.Verdicts.{accepts_both}
use Rattle.encoder.proofs.Codec.{length_section, cells_codec, regions_codec, rights_codec, nodes_codec, programs_codec, triggers_codec, labels_codec}
use Rattle.encoder.proofs.Writes.{picked_few}
use Rattle.writer.specs.Write.{written_values, write_fits, write_verdict, rewritten, write_answer, Written}
use Rattle.capi.specs.Calls.{written, WriteCall, write_numbers, write_call}
use Rattle.capi.specs.declared.Answered.{Answered}
use Rattle.capi.proofs.Indexes.{Low, low_need, low_then, low_verdict}
use Rattle.std.specs.Prelude.{Ok, Err}
use Rattle.book.specs.declared.Refusal.{Refusal}
use Rattle.writer.specs.Write as writer
use Rattle.book.specs.declared.Reason.TheVariants as reasons

module _ (file : List ℕ) (amounts : List ℤ) (presence labels out : List ℕ) where
  -- no section is longer than it may be
  length_new : verdict file ≡ Ok tt → length (rewritten file amounts presence labels) ≤ 60000
  unfolding rewritten encode other_sections tail_bytes with_cells six_extents pairs cells_format regions_format rights_format nodes_format programs_format triggers_format labels_format
  length_new v =
      let t = placed file v in
      let b = decode file in
      simp length-append
      (omega (
        arith,
        picked_few (has presence) (λ p. cell_record p (get_or amounts p (pos 0))) 512 0,
        length_section cells_codec (cells_from amounts presence 512 0),
        length_section regions_codec b.regions,
        count_regions file,
        t.few_regions,
        length_section rights_codec b.rights,
        count_rights file,
        t.few_rights,
        length_section nodes_codec b.nodes,
        count_nodes file,
        t.few_nodes,
        length_section programs_codec b.programs,
        count_programs file,
        t.few_programs,
        length_section triggers_codec b.triggers,
        count_triggers file,
        t.few_triggers,
        picked_few (λ p. not (is_own p (label_at labels p))) (label_record labels) 512 0,
        length_section labels_codec (labels_from labels 512 0),
      ))

  -- the index and the bytes that C is given
  low : (v : Verdict) → Low v → (written (write_answer v (rewritten file amounts presence labels))).at < 1024
  unfolding written written_values verdict_values
  low (Ok _) l = lit< tt
  low (Err refusal) l = l

  small : (v : Verdict) → (v ≡ Ok tt → verdict file ≡ Ok tt) → (written (write_answer v (rewritten file amounts presence labels))).bytes ≤ 60000
  unfolding written written_values
  small (Ok _) h = length_new (h refl)
  small (Err refusal) h = lit≤ tt

  write_low : (write_call file amounts presence labels out).answer.at < 1024
  unfolding write_call write_numbers writer.write_call write_verdict
  write_low = low _ (low_then _ _ (low_need _ _) λ _. low_verdict file)

  write_small : (write_call file amounts presence labels out).answer.bytes ≤ 60000
  unfolding write_call write_numbers writer.write_call write_verdict
  write_small = small (write_verdict file amounts presence labels out) (λ e. (accepts_both (need reasons.Lent (write_fits amounts presence labels out)) _ e).1)

  module _ (a : Written) (o : List ℕ) (e : record { answer = a; out = o } ≡ writer.write_call file amounts presence labels out) where
    module _ (refusal : Refusal) (q : a ≡ Err refusal) where
      pub write_refused : (r : Answered) → r ≡ record { number = number_of refusal.reason; at = refusal.index; bytes = 0 } → record { answer = r; out = o } ≡ write_call file amounts presence labels out
      unfolding write_call write_numbers written written_values
      write_refused r t = rw t (rw q at (ap write_numbers e))

      pub write_index : refusal.index < 1024
      write_index = omega (arith, write_low, ap (λ (c : WriteCall). c.answer.at) (write_refused _ refl))

    module _ (n : ℕ) (q : a ≡ Ok n) where
      pub write_wrote : (r : Answered) → r ≡ record { number = 0; at = 0; bytes = n } → record { answer = r; out = o } ≡ write_call file amounts presence labels out
      unfolding write_call write_numbers written written_values
      write_wrote r t = rw t (rw q at (ap write_numbers e))

      pub write_bytes : n ≤ 60000
      write_bytes = omega (arith, write_small, ap (λ (c : WriteCall). c.answer.bytes) (write_wrote _ refl))
