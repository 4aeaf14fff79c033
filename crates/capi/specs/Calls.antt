-- The calls as C sees them: the numbers of each answer, and lent memory as the call leaves it.
use Rattle.std.specs.Prelude.{List, true, ℕ, ℤ, Option, Some, None}
use Rattle.book.specs.Refusals.{verdict_values, Verdict}
use Rattle.monitor.specs.Call.{Memory, Result, values, call}
use Rattle.monitor.specs.Explain.{ExplainResult}
use Rattle.monitor.specs.Explain as tool
use Rattle.monitor.specs.declared.Answer.{Answer}
use Rattle.monitor.specs.declared.Values.{Values}
use Rattle.capi.specs.declared.Ran.{Ran}
use Rattle.capi.specs.declared.RanExplained.{RanExplained}
use Rattle.capi.specs.declared.Answered.{Answered}
use Rattle.loader.specs.Load as loader
use Rattle.writer.specs.Write as writer
use Rattle.writer.specs.Write.{Written}

-- ---- running

-- the paper's numbers for an answer
unfoldable pub ran : Answer → Ran
ran a = record { number = (values a).number; at = (values a).at; cost = (values a).cost; bytes = (values a).bytes }

pub record RunCall : Type 0 where
  pub answer : Ran
  pub memory : Memory

-- a call of the runner, with its answer in numbers
unfoldable pub run_numbers : Result → RunCall
run_numbers c = record { answer = ran c.answer; memory = c.memory }

-- the run that makes the tests of labels
unfoldable pub run_call : List ℕ → ℕ → Memory → RunCall
run_call file budget m = run_numbers (call true file budget m)

-- ---- naming the cell

-- 512 where no place is named: places are 0 to 511
unfoldable pub place_number : Option ℕ → ℕ
place_number None = 512
place_number (Some p) = p

pub record ExplainCall : Type 0 where
  pub answer : RanExplained
  pub memory : Memory

-- a call of the tool, with its answer in numbers
unfoldable pub explain_numbers : ExplainResult → ExplainCall
explain_numbers c =
    let v : Values = values c.result.answer in
    record {
      answer = record {
        number = v.number;
        at = v.at;
        cost = v.cost;
        bytes = v.bytes;
        place = place_number c.explanation.place;
        count = c.explanation.count;
      };
      memory = c.result.memory;
    }

unfoldable pub explain_call : List ℕ → ℕ → Memory → ExplainCall
explain_call file budget m = explain_numbers (tool.explain_call file budget m)

-- ---- loading

-- nothing is written
unfoldable pub loaded : Verdict → Answered
loaded v = record { number = (verdict_values v).number; at = (verdict_values v).index; bytes = 0 }

pub record LoadCall : Type 0 where
  pub answer : Answered
  pub amounts : List ℤ
  pub presence : List ℕ
  pub labels : List ℕ

-- a call of the loader, with its answer in numbers
unfoldable pub load_numbers : loader.Loaded → LoadCall
load_numbers c = record { answer = loaded c.answer; amounts = c.amounts; presence = c.presence; labels = c.labels }

unfoldable pub load_call : (file : List ℕ) (amounts : List ℤ) (presence labels : List ℕ) → LoadCall
load_call file amounts presence labels = load_numbers (loader.load_call file amounts presence labels)

-- ---- writing

unfoldable pub written : Written → Answered
written w = record { number = (writer.written_values w).number; at = (writer.written_values w).index; bytes = (writer.written_values w).bytes }

pub record WriteCall : Type 0 where
  pub answer : Answered
  pub out : List ℕ

-- a call of the writer, with its answer in numbers
unfoldable pub write_numbers : writer.WriteCall → WriteCall
write_numbers c = record { answer = written c.answer; out = c.out }

unfoldable pub write_call : (file : List ℕ) (amounts : List ℤ) (presence labels out : List ℕ) → WriteCall
write_call file amounts presence labels out = write_numbers (writer.write_call file amounts presence labels out)
