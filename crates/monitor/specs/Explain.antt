-- The tool that names the cell: a call of the runner, and the reason of its stop. It is for the office, and no part of a group's trace.
use Rattle.std.specs.Prelude.{List, Bool, true, ◌&&◌, not, cond, ℕ, ◌/◌, length, Option, None, Ok, Err}
use Rattle.places.specs.Sets.{has, tally, least}
use Rattle.book.specs.Layout.{decode}
use Rattle.book.specs.Refusals.{Verdict}
use Rattle.monitor.specs.Run.{Compared, about_labels, Out, done, stop}
use Rattle.monitor.specs.Call.{Memory, Result, run_book, call_verdict, call}

-- place p stands in the set that was tested, and not in the set that it has to lie within
unfoldable pub stands : Compared → ℕ → Bool
stands c p = has c.tested p && not (has c.bound p)

pub record Explanation : Type 0 where
  pub place : Option ℕ
  pub count : ℕ

-- the lowest of such places, and how many there are
unfoldable pub reason : Compared → Explanation
reason c = record { place = least (stands c) 512; count = tally (stands c) 512 }

abbrev pub no_reason : Explanation
no_reason = record { place = None; count = 0 }

-- of the end of a run: stops 25, 26, 27 and 29 have a reason, and no other end has
unfoldable pub explanation : Out (Unit {0}) → Explanation
explanation (done t a s) = no_reason
explanation (stop t h s) = cond (about_labels h.number) (reason h.compared) no_reason

-- of a call: a refusal has none
unfoldable pub explained : List ℕ → ℕ → Memory → Verdict → Explanation
explained file budget m (Err refusal) = no_reason
explained file budget m (Ok _) = explanation (run_book true (decode file) budget (length m.trace / 8))

-- what the tool gives back: the run's answer and the memory that it leaves, and the explanation
pub record ExplainResult : Type 0 where
  pub result : Result
  pub explanation : Explanation

unfoldable pub explain_call : List ℕ → ℕ → Memory → ExplainResult
explain_call file budget m = record { result = call true file budget m; explanation = explained file budget m (call_verdict file budget m) }
