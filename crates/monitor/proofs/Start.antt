-- The start of a run. Cells, place by place: amounts, presence and labels from the records, and nothing beyond the 512 places. Rights: they depend on the book's script only. Assumes nothing.
use mathlib.Core.Path.{◌≡◌, refl, ap, ◌∙◌, fun_ext}
use mathlib.Core.List.{List, [], ◌∷◌}
use mathlib.Core.Bool.{Bool, cond}
use Prim.Native.Nat.{ℕ, ◌*◌, ◌/◌, ◌%◌, ◌^◌, ◌≤◌, ◌<◌}
use native.Mathlib.Decide.{dec_lt}
use native.Mathlib.Omega.{arith}
use lib.Dec.{eqb, ltb}
use lib.IntN.{ℤ, pos}
use lib.ListN.{set}
use borrow.Author.Tests.{lt-ltb, le-ltb}
use Rattle.places.specs.Sets.{empty, set_of}
use Rattle.places.proofs.Sets.{has_set_of, length_set_of, words_set_of}
use Rattle.places.proofs.Shapes.{single_word}
use Rattle.labels.proofs.Labels.{length_by, label_by}
use Rattle.book.specs.Records.{RightRecord, LabelRecord, Book, label_of}
use Rattle.book.specs.Start.{amount_at, or_zero, is_there, start_amounts, start_presence, remembered, start_labels, rights_hold, right_set, public_set, tabulate}
use Rattle.monitor.specs.Labelled.{Label, Lab}
use Rattle.monitor.specs.Run.{Cell}
use Rattle.monitor.specs.Call.{cells_of, script, rows, start_cells, start_rights}
use Rattle.book.proofs.Tabulate.{length_tabulate, tabulate_at}
use Rattle.book.proofs.Remembered.{length_remembered}
use Rattle.monitor.proofs.Memory.{nowhere, Sizes, nothing_beyond}

abbrev cell_from : Bool → ℤ → Label → Lab Cell
cell_from x z l = record { val = record { present = x; amount = z }; lab = l }

-- its label; where it has no record, one word of it is set
unfoldable pub label_quick : List LabelRecord → ℕ → Label
label_quick [] q = set (empty 8) (q / 64) (2 ^ (q % 64))
label_quick (r ∷ rs) q = cond (eqb r.place q) (label_of r) (label_quick rs q)

pub label_quick_is : (rs : List LabelRecord) (q : ℕ) → q < 512 → remembered rs q ≡ label_quick rs q
unfolding remembered label_quick
label_quick_is [] q h = single_word 8 q h
label_quick_is (r ∷ rs) q h = ap (cond (eqb r.place q) (label_of r)) (label_quick_is rs q h)

-- the cell at a place of a book's start
unfoldable pub start_cell : Book → ℕ → Lab Cell
start_cell b q =
    cond (ltb q 512)
    (cell_from (is_there (amount_at b.cells q)) (or_zero (amount_at b.cells q)) (label_quick b.labels q))
    nowhere

pub start_sizes : (b : Book) → Sizes (start_amounts b) (start_presence b) (start_labels b)
unfolding start_amounts start_presence start_labels
start_sizes b =
    record {
      amounts_are = length_tabulate (λ p. or_zero (amount_at b.cells p)) 512;
      presence_is = length_set_of 8 (λ p. is_there (amount_at b.cells p));
      labels_are = length_by (remembered b.labels) (length_remembered b.labels) 512;
      words = words_set_of 8 (λ p. is_there (amount_at b.cells p));
    }

-- beyond the 512 places all books start alike
pub start_beyond : (b : Book) (q : ℕ) → 512 ≤ q → start_cells b q ≡ nowhere
unfolding start_cells
start_beyond b q h = nothing_beyond (start_amounts b) (start_presence b) (start_labels b) (start_sizes b) q h

-- each cell's label is that of its record, or its own place alone
pub start_label : (b : Book) (q : ℕ) → q < 512 → (start_cells b q).lab ≡ remembered b.labels q
unfolding start_cells cells_of start_labels
start_label b q h = label_by (remembered b.labels) (length_remembered b.labels) 512 q h

pub start_is : (b : Book) → start_cells b ≡ start_cell b
unfolding start_cells cells_of start_amounts start_presence start_labels start_cell
start_is b = fun_ext (λ q. go q (dec_lt q 512))
  where
    go : (q : ℕ) → Dec (q < 512) → start_cells b q ≡ start_cell b q
    go q (yes h) =
        let present = has_set_of 8 (λ p. is_there (amount_at b.cells p)) q in
        let amount = tabulate_at (λ p. or_zero (amount_at b.cells p)) 512 q (pos 0) h in
        rw (lt-ltb q 512 h, present, lt-ltb q (64 * 8) h, amount, label_by (remembered b.labels) (length_remembered b.labels) 512 q h, label_quick_is b.labels q h)
    go q (no g) =
        let h : 512 ≤ q = omega arith in
        start_beyond b q h ∙ rw (le-ltb q 512 h)

-- ---- what depends on the script only

script_rights : (b : Book) (kind user : ℕ) (rs : List RightRecord) (p : ℕ) → rights_hold (script b) kind user rs p ≡ rights_hold b kind user rs p
unfolding rights_hold script
script_rights b kind user [] p = refl
script_rights b kind user (r ∷ rs) p = rw (script_rights b kind user rs p)

script_set : (b : Book) (kind user : ℕ) → right_set (script b) kind user ≡ right_set b kind user
unfolding right_set script
script_set b kind user = ap (set_of 8) (fun_ext (λ p. script_rights b kind user b.rights p))

pub script_public : (b : Book) → public_set (script b) ≡ public_set b
script_public b = script_set b 0 0

pub script_start : (b : Book) → start_rights (script b) ≡ start_rights b
unfolding start_rights
script_start b =
    ap (λ (sets : ℕ → ℕ → List ℕ). record { read = rows (tabulate (sets 1) 8); write = rows (tabulate (sets 2) 8) })
    (fun_ext (λ kind. fun_ext (λ user. script_set b kind user)))
