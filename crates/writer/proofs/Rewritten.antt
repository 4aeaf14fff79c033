-- The book with the cells and labels of lent memory for its own: it is read back as it was written, and accepted. Assumes nothing.
use mathlib.Core.Path.{◌≡◌, refl, ap, ◌∙◌, fun_ext}
use mathlib.Core.List.{List}
use mathlib.Core.Bool.{Bool, true, false, ◌||◌}
use Prim.Native.Nat.{ℕ, zero, suc, ◌<◌}
use native.Mathlib.Omega.{arith}
use lib.IntN.{ℤ}
use lib.ListN.{length}
use borrow.Author.Tests.{le-ltb}
use Rattle.places.specs.Sets.{Words, has}
use Rattle.book.specs.Bytes.{Bytes}
use Rattle.book.specs.Records.{Book}
use Rattle.book.specs.Layout.{decode}
use Rattle.book.specs.Refusals.{and_then, need, blame, bad_cell, bad_region, right_fits, bad_right, node_at, field_fits, node_fits, bad_node, is_command, program_fits, bad_program, forbidden, child, reaches, trigger_fits, bad_trigger, bad_label, book_verdict, verdict, Verdict}
use Rattle.book.specs.Kinds.{fields_of}
use Rattle.book.specs.Encode.{encode, label_record, with_cells}
use Rattle.std.specs.Prelude.{Ok}
use Rattle.book.proofs.First.{first_none}
use Rattle.book.proofs.Verdicts.{accepts_both}
use Rattle.book.proofs.Accepted.{placed}
use Rattle.writer.specs.Claims.{Amounts}
use Rattle.encoder.proofs.Writes.{here, other_label, picked_few}
use Rattle.writer.proofs.Trailer.{Few, counts_of, found_few}
use Rattle.writer.proofs.Cells.{cells_kept, cells_good}
use Rattle.writer.proofs.Labels.{labels_kept, labels_good}
use Rattle.writer.proofs.Books.{new_counts}
use Rattle.writer.proofs.Files.{Sound, sound_found, passes_length, passes_mark, passes_sections, decode_encode}
use Rattle.book.specs.declared.Reason.TheVariants as reasons
use Rattle.book.specs.declared.Reason.{Reason}

-- ---- the checks of the records between look neither at the cells nor at the labels

-- refusals 6 to 10, and then w
abbrev middle_verdict : Book → Verdict → Verdict
middle_verdict b w =
    and_then (blame reasons.Region (bad_region b.regions) (length b.regions))
    (and_then (blame reasons.Right (bad_right b) (length b.rights))
    (and_then (blame reasons.Node (bad_node b) (length b.nodes))
    (and_then (blame reasons.Program (bad_program b) (length b.programs))
    (and_then (blame reasons.Trigger (bad_trigger b) (length b.triggers)) w))))

module _ (amounts : List ℤ) (presence labels : List ℕ) (b : Book) where
  -- one step down, from what is reached below
  abbrev step : (ℕ → Bool) → ℕ → Bool
  step below i =
      let x = node_at b i in
      let u = fields_of x.kind in
      forbidden x.kind || (child below u.a x.a || (child below u.b x.b || (child below u.c x.c || child below u.d x.d)))

  same_reach : (depth : ℕ) → reaches (with_cells amounts presence labels b) depth ≡ reaches b depth
  unfolding reaches with_cells
  same_reach zero = refl
  same_reach (suc depth) = ap step (same_reach depth)

  same_triggers : bad_trigger (with_cells amounts presence labels b) ≡ bad_trigger b
  unfolding bad_trigger trigger_fits is_command with_cells
  same_triggers = fun_ext (λ i. rw (same_reach (length b.nodes)))

  same_middle : (w : Verdict) → middle_verdict (with_cells amounts presence labels b) w ≡ middle_verdict b w
  unfolding bad_right right_fits node_fits field_fits bad_program program_fits is_command with_cells
  same_middle w =
      ap (λ (bad : ℕ → Bool).
      and_then (blame reasons.Region (bad_region b.regions) (length b.regions))
      (and_then (blame reasons.Right (bad_right b) (length b.rights))
      (and_then (blame reasons.Node (bad_node b) (length b.nodes))
      (and_then (blame reasons.Program (bad_program b) (length b.programs))
      (and_then (blame reasons.Trigger bad (length b.triggers)) w)))))
      same_triggers

-- ---- a book that is written

-- no record is blamed where none is bad
unblamed : (why : Reason) (bad : ℕ → Bool) (n : ℕ) → ((i : ℕ) → i < n → bad i ≡ false) → blame why bad n ≡ Ok tt
unfolding blame
unblamed why bad n h = rw (first_none bad n (record { none = h }), le-ltb n n (omega arith))

needed : (why : Reason) {test : Bool} → test ≡ true → need why test ≡ Ok tt
unfolding need
needed why e = rw e

all_accept : {v w : Verdict} → v ≡ Ok tt → w ≡ Ok tt → and_then v w ≡ Ok tt
unfolding and_then
all_accept {v} {w} e f = ap (λ (x : Verdict). and_then x w) e ∙ f

-- refusals 6 to 10 are passed whatever follows
middle_accepts : (b : Book) (w w' : Verdict) → middle_verdict b w ≡ Ok tt → w' ≡ Ok tt → middle_verdict b w' ≡ Ok tt
middle_accepts b w w' e f =
    let regions = accepts_both (blame reasons.Region (bad_region b.regions) (length b.regions)) _ e in
    let rights = accepts_both (blame reasons.Right (bad_right b) (length b.rights)) _ regions.1 in
    let nodes = accepts_both (blame reasons.Node (bad_node b) (length b.nodes)) _ rights.1 in
    let programs = accepts_both (blame reasons.Program (bad_program b) (length b.programs)) _ nodes.1 in
    let triggers = accepts_both (blame reasons.Trigger (bad_trigger b) (length b.triggers)) _ programs.1 in
    all_accept regions.0 (all_accept rights.0 (all_accept nodes.0 (all_accept programs.0 (all_accept triggers.0 f))))

-- the bytes of a sound book whose records are good are accepted
pub encode_accepted : (b : Book) → Sound b → book_verdict b ≡ Ok tt → verdict (encode b) ≡ Ok tt
unfolding verdict
encode_accepted b sound e =
    all_accept (needed reasons.Length (passes_length b sound))
    (all_accept (needed reasons.Mark (passes_mark b sound))
    (all_accept (needed reasons.Sections (passes_sections b sound))
    (ap book_verdict (decode_encode b sound) ∙ e)))

-- the records of an accepted file are good
pub old_book : (s : List ℕ) → verdict s ≡ Ok tt → book_verdict (decode s) ≡ Ok tt
unfolding verdict
old_book s v =
    let length = accepts_both _ _ v in
    let mark = accepts_both _ _ length.1 in
    (accepts_both _ _ mark.1).1

module _ (s : List ℕ) (b : Bytes s) (v : verdict s ≡ Ok tt) (amounts : List ℤ) (presence labels : List ℕ) where
  abbrev new : Book
  new = with_cells amounts presence labels (decode s)

  few : Few (counts_of new)
  few =
      let f = found_few (placed s v) in
      rw (new_counts s b v amounts presence labels)
      (record {
        cells = picked_few (has presence) (here amounts) 512 0;
        regions = f.regions;
        rights = f.rights;
        nodes = f.nodes;
        programs = f.programs;
        triggers = f.triggers;
        labels = picked_few (other_label labels) (label_record labels) 512 0;
      })

  module _ (fit : Amounts amounts) (words : Words labels) (long : length labels ≡ 4096) where
    pub sound : Sound new
    unfolding with_cells
    sound =
        let old = sound_found s b v in record {
          few = few;
          cells = cells_kept amounts presence fit;
          regions = old.regions;
          rights = old.rights;
          nodes = old.nodes;
          programs = old.programs;
          triggers = old.triggers;
          labels = labels_kept labels words long;
        }

    new_book : book_verdict new ≡ Ok tt
    unfolding book_verdict
    new_book =
        all_accept (unblamed reasons.Cell (bad_cell new.cells) (length new.cells) (λ i h. new_cells i h))
        (same_middle amounts presence labels (decode s) _ ∙ middle_accepts (decode s) _ _ (accepts_both _ _ (old_book s v)).1
        (unblamed reasons.Label (bad_label new.labels) (length new.labels) (λ i h. new_labels i h)))
      where
        new_cells : (i : ℕ) → i < length new.cells → bad_cell new.cells i ≡ false
        new_cells = unfold with_cells in cells_good amounts presence

        new_labels : (i : ℕ) → i < length new.labels → bad_label new.labels i ≡ false
        new_labels = unfold with_cells in labels_good labels words long

    pub new_accepted : verdict (encode new) ≡ Ok tt
    new_accepted = encode_accepted new sound new_book
