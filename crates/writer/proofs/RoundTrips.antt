-- The round trips between a book's file and lent memory. Assumes nothing.
use mathlib.Core.Path.{◌≡◌, refl, sym, ap, ◌∙◌}
use mathlib.Core.List.{List, [], ◌++◌}
use mathlib.Core.Bool.{Bool, true, false, cond}
use mathlib.Core.Option.{none, some}
use Prim.Native.Nat.{ℕ, ◌*◌, ◌≤◌}
use native.Mathlib.Omega.{arith}
use lib.Dec.{eqb}
use lib.IntN.{ℤ, pos}
use lib.ListN.{length, get_or, take, drop}
use lib.Seq.{take_at}
use borrow.Author.Tests.{lt-ltb, eqb-true}
use Rattle.places.specs.Sets.{Words, has}
use Rattle.places.proofs.Sets.{has_set_of, length_set_of, set_of_has}
use Rattle.places.proofs.Shapes.{set_of_cong}
use Rattle.labels.proofs.Labels.{length_by}
use Rattle.book.specs.Bytes.{Bytes}
use Rattle.book.specs.Records.{Book, records, labels_format}
use Rattle.book.specs.Layout.{trailer, remembers, section, decode}
use Rattle.book.specs.Refusals.{verdict, Verdict}
use Rattle.book.specs.Start.{Lengths, amount_at, or_zero, is_there, start_amounts, start_presence, remembered, start_labels}
use Rattle.book.specs.Encode.{encode, cells_from, labels_from, with_cells}
use Rattle.book.specs.declared.Section.{Section}
use Rattle.std.specs.Prelude.{Ok, Err}
use Rattle.book.proofs.Chains.{both}
use Rattle.book.proofs.Verdicts.{accepts_both, need_accepts}
use Rattle.book.proofs.Decoded.{count_cells, count_labels}
use Rattle.book.proofs.Accepted.{accepted}
use Rattle.book.proofs.Remembered.{length_remembered}
use Rattle.book.proofs.Tabulate.{length_tabulate, tabulate_at, tabulate_cong}
use Rattle.loader.specs.Load.{Loaded, load_call}
use Rattle.loader.proofs.Loads.{zero_if}
use Rattle.loader.proofs.Calls as loader
use Rattle.loader.proofs.Calls.{load_accepted}
use Rattle.writer.specs.Write.{write_verdict, rewritten, write_answer, WriteCall, write_call}
use Rattle.writer.specs.Claims.{Amounts, SameBytes, WrittenBack, SameBook, present_amounts, Rewritten, ReadsBack}
use Rattle.writer.proofs.Cells.{cells_amount, cells_are}
use Rattle.writer.proofs.Labels.{labels_back, labels_are}
use Rattle.writer.proofs.Files.{sound_found, passes_version, encode_decode, decode_encode}
use Rattle.writer.proofs.Calls.{write_accepted, written, write_by, file_decides}
use Rattle.writer.proofs.Rewritten.{encode_accepted, old_book, sound, new_accepted}
use Rattle.book.specs.declared.Reason.TheVariants as reasons

-- what loading an accepted file leaves
loads : (file : List ℕ) → verdict file ≡ Ok tt → (amounts : List ℤ) (presence labels : List ℕ) → Lengths amounts presence labels
    → load_call file amounts presence labels
    ≡ record { answer = Ok tt; amounts = start_amounts (decode file); presence = start_presence (decode file); labels = start_labels (decode file) }
loads file v amounts presence labels l = sym (load_accepted file amounts presence labels _ _ _ (loader.file_decides file amounts presence labels l v) refl refl refl)

-- ---- a file that is loaded and written back

module _ (file : List ℕ) (b : Bytes file) (v : verdict file ≡ Ok tt) where
  abbrev book : Book
  book = decode file

  -- the memory holds the book's cells and labels
  same_cells : cells_from (start_amounts book) (start_presence book) 512 0 ≡ book.cells
  unfolding start_amounts start_presence
  same_cells =
      cells_are (start_amounts book) (start_presence book) book.cells (λ i h. (accepted file v).cells_ok i (omega (arith, count_cells file)))
      (λ q h. has_set_of 8 (λ p. is_there (amount_at book.cells p)) q ∙ rw (lt-ltb q (64 * 8) h))
      (λ q h. tabulate_at (λ p. or_zero (amount_at book.cells p)) 512 q (pos 0) h)

  same_labels : labels_from (start_labels book) 512 0 ≡ book.labels
  unfolding start_labels
  same_labels = labels_are book.labels (sound_found file b v).labels (λ i h. (accepted file v).labels_ok i (omega (arith, count_labels file)))

  abbrev new : List ℕ
  new = rewritten file (start_amounts book) (start_presence book) (start_labels book)

  new_is : new ≡ encode book
  unfolding rewritten with_cells
  new_is =
      ap encode (λ i. record {
        cells = same_cells i;
        regions = book.regions;
        rights = book.rights;
        nodes = book.nodes;
        programs = book.programs;
        triggers = book.triggers;
        labels = same_labels i;
      })

  writes : (out : List ℕ) → 60000 ≤ length out
      → write_call file (start_amounts book) (start_presence book) (start_labels book) out ≡ record { answer = Ok (length new); out = new ++ drop (length new) out }
  unfolding start_amounts start_presence start_labels
  writes out h =
      sym
      (write_accepted file (start_amounts book) (start_presence book) (start_labels book) out
      (file_decides file (start_amounts book) (start_presence book) (start_labels book) out
      (record { amounts_are = length_tabulate _ 512; presence_is = length_set_of 8 _; labels_are = length_by (remembered book.labels) (length_remembered book.labels) 512 }) h v)
      refl refl)

  -- what the call has written
  written_back : (out : List ℕ) (w : WriteCall) → w ≡ record { answer = Ok (length new); out = new ++ drop (length new) out } → WrittenBack file w
  written_back out w e =
      let bytes : take (length new) w.out ≡ encode book = ap (λ (x : WriteCall). take (length new) x.out) e ∙ take_at new (drop (length new) out) (length new) refl ∙ new_is in
      let same : decode (take (length new) w.out) ≡ book = ap decode bytes ∙ decode_encode book (sound_found file b v) in record {
        bytes = length new;
        answered = ap (λ (x : WriteCall). x.answer) e;
        accepted = ap verdict bytes ∙ encode_accepted book (sound_found file b v) (old_book file v);
        version_2 = ap remembers bytes ∙ passes_version book (sound_found file b v);
        same_records = same;
        same_cells = ap (λ (x : Book). x.cells) same;
        no_labels = λ one. ap (λ (x : Book). x.labels) same ∙ none_in one;
      }
    where
      -- version 1 has no label records
      none_in : remembers file ≡ false → book.labels ≡ []
      none_in one = unfold decode records in
          ap (λ (x : Bool). let z : Section = cond x (section file 6) (record { start = trailer file; count = 0 }) in records labels_format z.count z.start file) one

pub same_bytes : SameBytes
unfolding SameBytes
same_bytes file b v two_is amounts presence labels l out h =
    ap (λ (r : Loaded). write_call file r.amounts r.presence r.labels out) (loads file v amounts presence labels l)
    ∙ writes file b v out h
    ∙ ap (λ (x : List ℕ). record { answer = Ok (length x); out = x ++ drop (length x) out }) (new_is file b v ∙ encode_decode file b v two_is)

pub same_book : SameBook
unfolding SameBook
same_book file b v amounts presence labels l out h =
    written_back file b v out _
    (ap (λ (r : Loaded). write_call file r.amounts r.presence r.labels out) (loads file v amounts presence labels l) ∙ writes file b v out h)

-- ---- a book that is written and loaded

-- a call that answers a length has accepted
wrote : (v : Verdict) (new : List ℕ) (n : ℕ) → write_answer v new ≡ Ok n → (v ≡ Ok tt) × (n ≡ length new)
wrote (Ok _) new n e = (refl, cc)
wrote (Err refusal) new n e = (cc, cc)

module _
    (file : List ℕ) (b : Bytes file) (v : verdict file ≡ Ok tt)
    (amounts : List ℤ) (fit : Amounts amounts)
    (presence : List ℕ) (words : Words presence) (eight : length presence ≡ 8)
    (labels : List ℕ) (label_words : Words labels) (long : length labels ≡ 4096) where
  abbrev written_book : Book
  written_book = with_cells amounts presence labels (decode file)

  abbrev made : List ℕ
  made = rewritten file amounts presence labels

  decoded : decode made ≡ written_book
  unfolding rewritten
  decoded = decode_encode written_book (sound file b v amounts presence labels fit label_words long)

  passes : verdict made ≡ Ok tt
  unfolding rewritten
  passes = new_accepted file b v amounts presence labels fit label_words long

  second : remembers made ≡ true
  unfolding rewritten
  second = passes_version written_book (sound file b v amounts presence labels fit label_words long)

  -- the cells and the labels that are read back
  amounts_back : start_amounts (decode made) ≡ present_amounts amounts presence
  unfolding present_amounts start_amounts with_cells
  amounts_back =
      ap start_amounts decoded
      ∙ sym (tabulate_cong _ _ 512 (λ p h. zero_if (has presence p) (get_or amounts p (pos 0)) none ∙ sym (ap or_zero (cells_amount amounts presence p h))))

  presence_back : start_presence (decode made) ≡ presence
  unfolding start_presence with_cells
  presence_back =
      ap start_presence decoded
      ∙ sym
      (sym (set_of_has presence words)
      ∙ rw eight (set_of_cong (has presence) _ 8 (λ p h. there_if (has presence p) (get_or amounts p (pos 0)) ∙ sym (ap is_there (cells_amount amounts presence p h)))))
    where
      there_if : (t : Bool) (z : ℤ) → t ≡ is_there (cond t (some z) none)
      there_if true z = refl
      there_if false z = refl

  labels_again : start_labels (decode made) ≡ labels
  unfolding start_labels with_cells
  labels_again = ap start_labels decoded ∙ labels_back labels label_words long

  restored : Rewritten file amounts presence labels made
  unfolding with_cells
  restored = record {
    accepted = passes;
    version_2 = second;
    scripts = record {
      regions = ap (λ (x : Book). x.regions) decoded;
      rights = ap (λ (x : Book). x.rights) decoded;
      nodes = ap (λ (x : Book). x.nodes) decoded;
      programs = ap (λ (x : Book). x.programs) decoded;
      triggers = ap (λ (x : Book). x.triggers) decoded;
    };
    amounts_start = amounts_back;
    presence_starts = presence_back;
    labels_start = labels_again;
    loads = λ amounts' presence' labels' l.
        sym (load_accepted made amounts' presence' labels' _ _ _ (loader.file_decides made amounts' presence' labels' l passes) (sym amounts_back) (sym presence_back) (sym labels_again));
  }

pub reads_back : ReadsBack
unfolding ReadsBack write_verdict
reads_back file b amounts fit presence words labels label_words out n e =
    let new : List ℕ = rewritten file amounts presence labels in
    let w = wrote (write_verdict file amounts presence labels out) new n (ap (λ (r : WriteCall). r.answer) (write_by file amounts presence labels out refl) ∙ e) in
    let ways = accepts_both _ _ w.0 in
    let lengths = both (eqb (length amounts) 512) _ (need_accepts reasons.Lent _ ways.0) in
    let presence_is = both (eqb (length presence) 8) _ lengths.1 in
    let labels_are = both (eqb (length labels) 4096) _ presence_is.1 in
    let out_is : (write_call file amounts presence labels out).out ≡ new ++ drop (length new) out =
    ap (λ (r : WriteCall). r.out) (sym (write_by file amounts presence labels out refl) ∙ ap (written file amounts presence labels out) w.0) in
    let new_is : take n (write_call file amounts presence labels out).out ≡ new = ap (take n) out_is ∙ take_at new (drop (length new) out) n (sym w.1) in
    rw new_is (restored file b ways.1 amounts fit presence words (eqb-true _ 8 presence_is.0) labels label_words (eqb-true _ 4096 labels_are.0))
