-- Carrying a book forward to the next day (02, Change 5): it is run, and written as the run leaves it, which is done only where the run finished.
use Rattle.std.specs.Prelude.{List, true, cond, ℕ}
use Rattle.monitor.specs.Call.{Memory, Result, call}
use Rattle.claims.specs.TwoBooks.{finished}
use Rattle.writer.specs.Write.{WriteCall, written_values, write_call}

-- what the call gives back: the answer of the run and lent memory; the bytes of the new book, 0 where none is written; the output
pub record Forward : Type 0 where
  pub ran : Result
  pub bytes : ℕ
  pub out : List ℕ

-- the book of a file with the cells and labels that a memory holds
abbrev pub left_book : List ℕ → Memory → List ℕ → WriteCall
left_book file m out = write_call file m.amounts m.presence m.labels out

-- what follows a run: one that stops or is refused leaves the output as it was
unfoldable pub forward_of : List ℕ → List ℕ → Result → Forward
forward_of file out r =
    let w : WriteCall = left_book file r.memory out in
    record {
      ran = r;
      bytes = cond (finished r.answer) (written_values w.answer).bytes 0;
      out = cond (finished r.answer) w.out out;
    }

unfoldable pub forward_call : List ℕ → ℕ → Memory → List ℕ → Forward
forward_call file budget m out = forward_of file out (call true file budget m)
