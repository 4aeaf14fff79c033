-- The round trips between a book's file and lent memory, as statements about the two calls.
use Rattle.std.specs.Prelude.{◌≡◌, List, [], ◌++◌, true, false, cond, ℕ, ◌≤◌, ℤ, pos, length, get_or, take, drop, Ok}
use Rattle.std.specs.Int.{w32}
use Rattle.std.proofs.Common.{SFits}
use Rattle.places.specs.Sets.{Words, has}
use Rattle.book.specs.Bytes.{Bytes}
use Rattle.book.specs.Records.{SameScripts}
use Rattle.book.specs.Layout.{remembers, decode}
use Rattle.book.specs.Refusals.{verdict}
use Rattle.book.specs.Start.{Lengths, tabulate, start_amounts, start_presence, start_labels}
use Rattle.loader.specs.Load.{Loaded, load_call}
use Rattle.writer.specs.Write.{WriteCall, write_call}

-- each amount is a number of 32 bits, two's complement
pub record Amounts (amounts : List ℤ) : Type 0 where
  pub fits : (p : ℕ) → SFits w32 (get_or amounts p (pos 0))

-- a version 2 book that is loaded and written back is the same file, byte for byte
unfoldable pub SameBytes : Type 0
SameBytes =
    (file : List ℕ) → Bytes file → verdict file ≡ Ok tt → remembers file ≡ true
    → (amounts : List ℤ) (presence labels : List ℕ) → Lengths amounts presence labels
    → (out : List ℕ) → 60000 ≤ length out
    → let r : Loaded = load_call file amounts presence labels in
    write_call file r.amounts r.presence r.labels out ≡ record { answer = Ok (length file); out = file ++ drop (length file) out }

-- a call has written a version 2 book with the records of `file`; of a version 1 file: with the same cells and no label records
pub record WrittenBack (file : List ℕ) (w : WriteCall) : Type 0 where
  pub bytes : ℕ
  pub answered : w.answer ≡ Ok bytes
  pub accepted : verdict (take bytes w.out) ≡ Ok tt
  pub version_2 : remembers (take bytes w.out) ≡ true
  pub same_records : decode (take bytes w.out) ≡ decode file
  pub same_cells : (decode (take bytes w.out)).cells ≡ (decode file).cells
  pub no_labels : remembers file ≡ false → (decode (take bytes w.out)).labels ≡ []

-- a book of either version that is loaded and written back is a version 2 book with the same records
unfoldable pub SameBook : Type 0
SameBook =
    (file : List ℕ) → Bytes file → verdict file ≡ Ok tt
    → (amounts : List ℤ) (presence labels : List ℕ) → Lengths amounts presence labels
    → (out : List ℕ) → 60000 ≤ length out
    → let r : Loaded = load_call file amounts presence labels in
    WrittenBack file (write_call file r.amounts r.presence r.labels out)

-- the amounts that are read back: those of the present cells, and 0 elsewhere
unfoldable pub present_amounts : List ℤ → List ℕ → List ℤ
present_amounts amounts presence = tabulate (λ p. cond (has presence p) (get_or amounts p (pos 0)) (pos 0)) 512

-- `new` is a version 2 book like `file` in all but its cells and labels, which are those of lent memory; absent cells have labels too
pub record Rewritten (file : List ℕ) (amounts : List ℤ) (presence labels new : List ℕ) : Type 0 where
  pub accepted : verdict new ≡ Ok tt
  pub version_2 : remembers new ≡ true
  pub scripts : SameScripts (decode new) (decode file)
  pub amounts_start : start_amounts (decode new) ≡ present_amounts amounts presence
  pub presence_starts : start_presence (decode new) ≡ presence
  pub labels_start : start_labels (decode new) ≡ labels
  pub loads : (amounts' : List ℤ) (presence' labels' : List ℕ) → Lengths amounts' presence' labels'
      → load_call new amounts' presence' labels'
      ≡ record { answer = Ok tt; amounts = present_amounts amounts presence; presence = presence; labels = labels }

-- a book that was written is accepted, and loading it gives back what was written
unfoldable pub ReadsBack : Type 0
ReadsBack =
    (file : List ℕ) → Bytes file
    → (amounts : List ℤ) → Amounts amounts
    → (presence : List ℕ) → Words presence
    → (labels : List ℕ) → Words labels
    → (out : List ℕ) (n : ℕ) → (write_call file amounts presence labels out).answer ≡ Ok n
    → Rewritten file amounts presence labels (take n (write_call file amounts presence labels out).out)
