-- Calls on files that are written down compute quickly where the cells at the start are taken place by place. Assumes nothing.
use mathlib.Core.Path.{◌≡◌, refl, ap, ◌∙◌, fun_ext}
use mathlib.Core.List.{List}
use mathlib.Core.Bool.{true}
use Prim.Native.Nat.{ℕ, ◌/◌, ◌<◌}
use lib.IntN.{pos}
use lib.ListN.{length}
use Rattle.book.specs.Records.{Book}
use Rattle.book.specs.Layout.{decode}
use Rattle.book.specs.Refusals.{Verdict}
use Rattle.std.specs.Prelude.{Ok, Err}
use Rattle.monitor.specs.Labelled.{Lab, lit}
use Rattle.monitor.specs.Run.{Cell, Out, sixteen}
use Rattle.monitor.specs.Rules.{monitored, run}
use Rattle.monitor.specs.Call.{Memory, Result, script, start_cells, start_rights, start_state, run_book, call_verdict, result_of, answered, call}
use Rattle.monitor.specs.declared.Answer.TheVariants.{Refused}
use Rattle.claims.specs.TwoBooks.{accepted, finished, visible, visible_in, group_trace, members_read, granted_to, reach, cells_in}
use Rattle.monitor.proofs.Start.{start_cell, start_is}
use Rattle.monitor.proofs.Tables.{called_quick}
use Rattle.claims.proofs.Views.{end}
use Rattle.claims.proofs.Sized.{fine_run, fine_end}
use Rattle.claims.proofs.Demand3.{accepted_is, left_cells}

-- the run of a file's book, and a call, from cells that are worked out in this way
run_from : (Book → ℕ → Lab Cell) → List ℕ → ℕ → Memory → Out (Unit {0})
run_from cells file budget m =
    let b : Book = decode file in
    run (script b) monitored budget
    (record { cells = cells b; vars = sixteen (lit (pos 0)); rights = start_rights b; left = budget; room = length m.trace / 8 })

answered_from : (Book → ℕ → Lab Cell) → List ℕ → ℕ → Memory → Verdict → Result
answered_from cells file budget m (Err refusal) = record { answer = Refused refusal; memory = m }
answered_from cells file budget m (Ok _) = result_of budget m (run_from cells file budget m)

call_from : (Book → ℕ → Lab Cell) → List ℕ → ℕ → Memory → Result
call_from cells file budget m = answered_from cells file budget m (call_verdict file budget m)

-- the cells at the start place by place; all that a call and the terms of two books compute with is opened here
unfoldable pub call_quick : List ℕ → ℕ → Memory → Result
unfolding called_quick run_from answered_from call_from accepted finished visible visible_in group_trace members_read granted_to reach end
call_quick = call_from start_cell

pub call_is : call true ≡ call_quick
unfolding call answered run_book start_state run_from answered_from call_from call_quick
call_is = fun_ext λ file. fun_ext λ budget. fun_ext λ m.
    same file budget m (call_verdict file budget m) ∙ ap (λ cells. call_from cells file budget m) (fun_ext start_is)
  where
    same : (file : List ℕ) (budget : ℕ) (m : Memory) (v : Verdict) → answered true file budget m v ≡ answered_from start_cells file budget m v
    same file budget m (Err refusal) = refl
    same file budget m (Ok _) = refl

-- the cells that an accepted call leaves
unfoldable pub left_quick : List ℕ → ℕ → Memory → ℕ → Lab Cell
unfolding call_quick run_from
left_quick file budget m = (end (run_from start_cell file budget m)).cells

pub left_is : (file : List ℕ) (budget : ℕ) (m : Memory) → accepted (call true file budget m).answer ≡ true
    → (q : ℕ) → q < 512 → cells_in (call true file budget m).memory q ≡ left_quick file budget m q
unfolding run_book start_state run_from left_quick
left_is file budget m a q h =
    let room = length m.trace / 8 in
    rw (accepted_is file budget m a)
    (left_cells budget m (run_book true (decode file) budget room) (fine_end (fine_run true (decode file) budget room)).cells q h
    ∙ ap (λ cells. (end (run_from cells file budget m)).cells q) (fun_ext start_is))
