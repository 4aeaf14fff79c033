-- What the calls and runs of a table show, by computation: every definition that they compute with is opened in one place. The cells at
-- the start are taken place by place, which is quicker than from 4,096 label words. Assumes nothing.
use mathlib.Core.Path.{◌≡◌, refl, ap, ◌∙◌, fun_ext}
use mathlib.Core.List.{List, map, map_congr_left}
use mathlib.Core.Bool.{Bool, true}
use Prim.Native.Nat.{ℕ, ◌/◌}
use lib.IntN.{ℤ, pos}
use lib.ListN.{length}
use Rattle.places.specs.Sets.{has, word_of, set_of, single, same_words, word_by_word, union, difference, within}
use Rattle.regions.specs.Regions.{in_region, region_set}
use Rattle.book.specs.Records.{records, section_bytes, cells_format, regions_format, rights_format, nodes_format, programs_format, triggers_format, label_of, labels_format, Book}
use Rattle.book.specs.Layout.{in_order, six_bounds, decode}
use Rattle.book.specs.Kinds.{cost_of, sort_of, fields_of}
use Rattle.book.specs.Refusals as refusals
use Rattle.book.specs.Refusals.{and_then, first, blame, length_fits, mark_fits, sections_fit, cell_fits, rises, bad_cell, region_fits, bad_region, right_fits, bad_right, field_fits, is_zero, node_fits, is_command, program_fits, bad_program, forbidden, reaches, trigger_fits, bad_trigger, label_fits, bad_label, book_verdict, verdict, Verdict}
use Rattle.book.specs.Encode.{six_extents, distance_to_end, pairs, other_sections, tail_bytes, encode}
use Rattle.book.specs.Start.{tabulate, amount_at, rights_hold, right_set}
use Rattle.std.specs.Prelude.{Ok, Err}
use Rattle.monitor.specs.Labelled.{Lab, lit, lift, lift2, via, under}
use Rattle.monitor.specs.Run.{Cell, Out, after, next, each, when, guard, need, update, pay, set_var, set_cell, tell, sixteen, restore, own, taken_back, undoing}
use Rattle.monitor.specs.Syntax.{exp_of, cmd_of}
use Rattle.monitor.specs.Rules.{fits_32, equals, less_than, key, from_to, box_of, in_box, gather, seen, amounts_of, count_of, sum_of, best, best_of, aggregate, ranged, found, expr, within_label, choose, key_place, in_table, posting, trigger_vars, numbers, region_places, granted, revoked, fitting, trigger_run, fire, write_cell, command, eval, exec, program, run}
use Rattle.monitor.specs.Call.{Memory, Result, values, record_bytes, trace_bytes, script, rows, start_rights, start_state, run_book, call_verdict, memory_after, result_of, answered, call, cut, trace_records}
use Rattle.monitor.specs.Samples.{final}
use Rattle.monitor.specs.Tables.{Shown, Row, lent, shown, called, book_answered, ran, Shows, Leaving, left, Leaves}
use Rattle.monitor.specs.declared.Answer.TheVariants as answers
use Rattle.monitor.proofs.Start.{label_quick, start_cell, start_is}

-- ---- a book's run, its start cells place by place

run_from : Bool → (Book → ℕ → Lab Cell) → Book → ℕ → ℕ → Out (Unit {0})
run_from labels cells b budget room =
    run (script b) (record { labels = labels; undoes = true }) budget (record { cells = cells b; vars = sixteen (lit (pos 0)); rights = start_rights b; left = budget; room = room })

abbrev Running : Type 0
Running = Book → ℕ → ℕ → Out (Unit {0})

run_quick : Bool → Running
run_quick labels = run_from labels start_cell

same_runs : (labels : Bool) → run_book labels ≡ run_quick labels
unfolding run_book start_state run_from run_quick
same_runs labels = ap (run_from labels) (fun_ext start_is)

-- ---- the tables with a run of either kind

answered_by : Running → Book → ℕ → Memory → Verdict → Result
answered_by running b budget m (Err refusal) = record { answer = answers.Refused refusal; memory = m }
answered_by running b budget m (Ok _) = result_of budget m (running b budget (length m.trace / 8))

called_by : Running → ℤ → ℕ → Row (List ℕ) → Shown
called_by running z n row =
    let m = lent z n row.trace in
    shown (answered_by running (decode row.of) row.budget m (call_verdict row.of row.budget m))

ran_by : Running → ℤ → ℕ → Row Book → Shown
ran_by running z n row = shown (answered_by running row.of row.budget (lent z n row.trace) (book_verdict row.of))

called_same : (z : ℤ) (n : ℕ) (row : Row (List ℕ)) → called z n row ≡ called_by (run_quick true) z n row
unfolding called call answered called_by answered_by
called_same z n row =
    let m = lent z n row.trace in
    ap shown (same m (call_verdict row.of row.budget m)) ∙ ap (λ (running : Running). called_by running z n row) (same_runs true)
  where
    same : (m : Memory) (v : Verdict) → answered true row.of row.budget m v ≡ answered_by (run_book true) (decode row.of) row.budget m v
    same m (Err refusal) = refl
    same m (Ok _) = refl

ran_same : (labels : Bool) (z : ℤ) (n : ℕ) (row : Row Book) → ran labels z n row ≡ ran_by (run_quick labels) z n row
unfolding ran book_answered ran_by answered_by
ran_same labels z n row =
    ap shown (same (lent z n row.trace) (book_verdict row.of)) ∙ ap (λ (running : Running). ran_by running z n row) (same_runs labels)
  where
    same : (m : Memory) (v : Verdict) → book_answered labels row.of row.budget m v ≡ answered_by (run_book labels) row.of row.budget m v
    same m (Err refusal) = refl
    same m (Ok _) = refl

-- the cells at the end of a row's run
cells_by : Running → Leaving → List (Lab Cell)
cells_by running x =
    let row : Row Book = x.row in
    map (final (running row.of row.budget (row.trace / 8))).cells x.places

left_same : (labels : Bool) (z : ℤ) (n : ℕ) (x : Leaving) → left labels z n x ≡ (ran_by (run_quick labels) z n x.row, cells_by (run_quick labels) x)
unfolding left cells_by
left_same labels z n x =
    let cells = ap (λ (running : Running). cells_by running x) (same_runs labels) in
    λ i. (ran_same labels z n x.row i, cells i)

-- ---- tables that hold by computation

unfoldable pub called_quick : ℤ → ℕ → Row (List ℕ) → Shown
unfolding has word_of set_of single same_words word_by_word union difference within in_region region_set records section_bytes cells_format regions_format rights_format nodes_format programs_format triggers_format label_of labels_format in_order six_bounds decode cost_of sort_of fields_of and_then refusals.need refusals.marked first blame length_fits mark_fits sections_fit cell_fits rises bad_cell region_fits bad_region right_fits bad_right field_fits node_fits is_command program_fits bad_program forbidden reaches trigger_fits bad_trigger label_fits bad_label book_verdict verdict six_extents distance_to_end pairs other_sections tail_bytes encode tabulate amount_at rights_hold right_set lit lift lift2 via under after next each when guard need update pay set_var set_cell tell sixteen restore own taken_back undoing exp_of cmd_of fits_32 equals less_than key from_to box_of in_box gather seen amounts_of count_of sum_of best best_of aggregate ranged found expr within_label is_zero choose key_place in_table posting trigger_vars numbers region_places granted revoked fitting trigger_run fire write_cell command eval exec program run values record_bytes trace_bytes script rows start_rights call_verdict memory_after result_of cut trace_records lent label_quick start_cell shown run_from run_quick answered_by called_by
called_quick = called_by (run_quick true)

unfoldable pub ran_quick : Bool → ℤ → ℕ → Row Book → Shown
unfolding called_quick ran_by
ran_quick labels = ran_by (run_quick labels)

pub by_calling : (rows : List (Row (List ℕ))) → Shows called_quick rows → Shows called rows
unfolding called_quick
by_calling rows h z n = map_congr_left {l = rows} (λ row _. called_same z n row) ∙ h z n

pub by_running : (labels : Bool) (rows : List (Row Book)) → Shows (ran_quick labels) rows → Shows (ran labels) rows
unfolding ran_quick
by_running labels rows h z n = map_congr_left {l = rows} (λ row _. ran_same labels z n row) ∙ h z n

unfoldable pub left_quick : Bool → ℤ → ℕ → Leaving → Shown × List (Lab Cell)
unfolding ran_quick cells_by
left_quick labels z n x = (ran_quick labels z n x.row, cells_by (run_quick labels) x)

pub by_leaving : (labels : Bool) (rows : List Leaving)
    → ((z : ℤ) (n : ℕ) → map (left_quick labels z n) rows ≡ map (λ (x : Leaving). (x.row.shows, x.cells)) rows) → Leaves labels rows
unfolding left_quick
by_leaving labels rows h z n = map_congr_left {l = rows} (λ x _. left_same labels z n x) ∙ h z n
