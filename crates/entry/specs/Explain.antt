-- What the tool that names the cell promises, and the places from which its explanation is counted.
use Rattle.std.specs.Prelude.{◌≡◌, List, true, cond, ℕ, ◌/◌, length, Ok, Err}
use Rattle.places.specs.Sets.{difference}
use Rattle.book.specs.Layout.{decode}
use Rattle.book.specs.Refusals.{Verdict}
use Rattle.monitor.specs.Labelled.{Label, bottom}
use Rattle.monitor.specs.Run.{Compared, about_labels, Out, done, stop}
use Rattle.monitor.specs.Call.{Memory, run_book, call_verdict}
use Rattle.monitor.specs.Explain.{ExplainResult, explain_call}
use Rattle.machine.specs.Promises.{Outcome, compared_in}
use Rattle.machine.specs.declared.lent.Run.{Run}
use Rattle.machine.specs.declared.lent.Sets.{Sets}
use Rattle.entry.specs.Entry.{result}
use Rattle.entry.specs.declared.Explained.{Explained}

-- what a call of the tool gives back: the run's answer and lent memory as it leaves it, and the explanation
abbrev pub explained : Explained → Memory → ExplainResult
explained r m = record { result = result r.answer m; explanation = record { place = r.place; count = r.count } }

-- A call with this file, this budget and this lent memory answers r and leaves that memory: the run of the rules, refusals included, with
-- the explanation of its end.
abbrev pub Explains : List ℕ → ℕ → Memory → Explained → Memory → Type 0
Explains file budget before r after = explained r after ≡ explain_call file budget before

-- ---- the places

-- those in the way of a stop: where its number is about labels, what is in the set tested and not in the other
unfoldable pub obstacle : ℕ → Compared → Label
obstacle number c = cond (about_labels number) (difference c.tested c.bound) bottom

-- of the end of a run as its numbers and its sets hold it
unfoldable pub obstacle_of : Outcome → Run → Sets → Label
obstacle_of (Ok u) run sets = bottom
obstacle_of (Err e) run sets = obstacle run.number (compared_in run.number sets)

-- of the end of a run of the rules
unfoldable pub obstacle_at : Out (Unit {0}) → Label
obstacle_at (done t a s) = bottom
obstacle_at (stop t h s) = obstacle h.number h.compared

-- and of a call: a refusal leaves the set that is lent for them as it was
unfoldable pub obstacle_after : List ℕ → ℕ → Memory → Label → Verdict → Label
obstacle_after file budget m old (Err refusal) = old
obstacle_after file budget m old (Ok _) = obstacle_at (run_book true (decode file) budget (length m.trace / 8))

abbrev pub obstacle_called : List ℕ → ℕ → Memory → Label → Label
obstacle_called file budget m old = obstacle_after file budget m old (call_verdict file budget m)
