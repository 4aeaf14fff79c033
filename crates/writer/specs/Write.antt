-- Writing: from all that the call is given to all that it leaves.
use Rattle.std.specs.Prelude.{◌≡◌, List, ◌++◌, Bool, ◌&&◌, ℕ, eqb, leb, ℤ, length, drop, Result, Ok, Err}
use Rattle.book.specs.Layout.{decode}
use Rattle.book.specs.Refusals.{number_of, Verdict, VerdictValues, verdict_values, and_then, need, verdict}
use Rattle.book.specs.Encode.{encode, with_cells}
use Rattle.loader.specs.Load.{where_accepted}
use Rattle.book.specs.declared.Refusal.{Refusal}
use Rattle.book.specs.declared.Reason.TheVariants as reasons

-- what writing a book answers: the length written, or a refusal
abbrev pub Written : Type 0
Written = Result ℕ Refusal

-- an answer in the paper's numbers, and the bytes written
pub record WrittenValues : Type 0 where
  pub number : ℕ
  pub index : ℕ
  pub bytes : ℕ

-- a refusal writes none
unfoldable pub written_values : Written → WrittenValues
written_values (Err refusal) = record { number = number_of refusal.reason; index = refusal.index; bytes = 0 }
written_values (Ok bytes) = record { number = 0; index = 0; bytes = bytes }

-- 1: 512 amounts, 8 presence words, 4,096 label words, at least 60,000 bytes of output
abbrev pub write_fits : List ℤ → List ℕ → List ℕ → List ℕ → Bool
write_fits amounts presence labels out =
    eqb (length amounts) 512 && (eqb (length presence) 8 && (eqb (length labels) 4096 && leb 60000 (length out)))

-- refusal 1, then 2 to 10 and 32
unfoldable pub write_verdict : List ℕ → List ℤ → List ℕ → List ℕ → List ℕ → Verdict
write_verdict file amounts presence labels out = and_then (need reasons.Lent (write_fits amounts presence labels out)) (verdict file)

-- the book with its cells and labels replaced, as version 2
unfoldable pub rewritten : (file : List ℕ) (amounts : List ℤ) (presence labels : List ℕ) → List ℕ
rewritten file amounts presence labels = encode (with_cells amounts presence labels (decode file))

-- the answer: the length written, or the refusal
abbrev pub write_answer : Verdict → List ℕ → Written
write_answer (Ok _) new = Ok (length new)
write_answer (Err refusal) new = Err refusal

-- the answer, and the output afterwards; bytes past the book stay
pub record WriteCall : Type 0 where
  pub answer : Written
  pub out : List ℕ

unfoldable pub write_call : (file : List ℕ) (amounts : List ℤ) (presence labels out : List ℕ) → WriteCall
write_call file amounts presence labels out =
    let v : Verdict = write_verdict file amounts presence labels out in
    let new : List ℕ = rewritten file amounts presence labels in
    record {
      answer = write_answer v new;
      out = where_accepted v (new ++ drop (length new) out) out;
    }

-- what `write` ensures of its answer, in the paper's numbers: those of its verdict, and the length of the new book where that accepts
abbrev pub WriteValues : Type 0
WriteValues =
    (file : List ℕ) (amounts : List ℤ) (presence labels out o : List ℕ) (r : Written)
    → record { answer = r; out = o } ≡ write_call file amounts presence labels out
    → let v : Verdict = write_verdict file amounts presence labels out in
    let told : VerdictValues = verdict_values v in
    written_values r ≡ record { number = told.number; index = told.index; bytes = where_accepted v (length (rewritten file amounts presence labels)) 0 }
