-- The start of a book's run in the arrays, and the end of its programs as the result of the call. Assumes nothing.
use mathlib.Core.Path.{◌≡◌, refl, sym, ap, ◌∙◌}
use mathlib.Core.List.{List, [], ◌++◌}
use mathlib.Core.Bool.{true}
use Prim.Native.Nat.{ℕ, ◌*◌, ◌/◌, ◌<◌}
use native.Mathlib.Decide.{dec_lt}
use native.Mathlib.Nat.{zero-add, sub-zero, le_refl}
use native.Mathlib.Omega.{arith}
use lib.IntN.{ℤ, pos}
use lib.ListN.{length, get_or, drop, get_or-eq_default}
use Rattle.places.specs.Sets.{has}
use Rattle.book.specs.Records.{Book}
use Rattle.book.specs.Layout.{decode}
use Rattle.book.specs.Start.{start_amounts, start_presence}
use Rattle.std.specs.Prelude.{Ok}
use Rattle.monitor.specs.Labelled.{Label, Lab, lit}
use Rattle.monitor.specs.Run.{Rights, State, Rec, sixteen}
use Rattle.monitor.specs.Rules.{monitored, run}
use Rattle.monitor.specs.Call.{Memory, rows, cells_of, amounts_in, presence_in, labels_in, script, trace_bytes, start_cells, start_rights, start_state, run_book, memory_after, result_of, answered}
use Rattle.monitor.proofs.Start.{start_beyond, start_label, script_start}
use Rattle.std.specs.Prelude.{Ok, Err}
use Rattle.machine.specs.Script.{script_of}
use Rattle.machine.specs.Store.{row_at, cells_held, rights_in, Store, store, state, with_records}
use Rattle.machine.specs.Promises.{Outcome, ended, Does}
use Rattle.machine.specs.declared.lent.Run.{Run}
use Rattle.machine.specs.declared.lent.Sets.{Sets}
use Rattle.programs.specs.Programs.{Programs}
use Rattle.start.specs.Start.{SetsOf}
use Rattle.entry.specs.Entry.{lent, result, answer_of}
use Rattle.entry.specs.Explain.{obstacle_of, obstacle_at, obstacle_after}

-- the numbers of a run that begins
abbrev pub begun : ℕ → Run
begun budget = record { left = budget; used = 0; number = 0; node = 0 }

-- the end of a run as the result
ended_result : (budget : ℕ) (m : Memory) (o : Outcome) (records : List Rec) (vars : ℕ → Lab ℤ) (x : Store) → x.run.used ≡ 8 * length records
    → result_of budget m (ended o x.run x.sets records (state vars x)) ≡ result (answer_of o x.run budget) (memory_after m records (state vars x))
unfolding result_of ended answer_of
ended_result budget m (Ok u) records vars x q = rw q
ended_result budget m (Err e) records vars x q = rw q

-- and the places in its way
ended_obstacle : (o : Outcome) (run : Run) (sets : Sets) (records : List Rec) (s : State) → obstacle_of o run sets ≡ obstacle_at (ended o run sets records s)
unfolding obstacle_of obstacle_at ended
ended_obstacle (Ok u) run sets records s = refl
ended_obstacle (Err e) run sets records s = refl

module _ (file code : List ℕ) (same : script_of code ≡ script (decode file)) {amounts : List ℤ} {present : List ℕ} {sets : Sets}
    (load : (amounts ≡ start_amounts (decode file)) × (present ≡ start_presence (decode file))) (h : SetsOf (script_of code) (decode file).labels present sets) where
  abbrev b : Book
  b = decode file

  label_same : (q : ℕ) → row_at sets.labels q ≡ (start_cells b q).lab
  label_same q = go (dec_lt q 512)
    where
      go : Dec (q < 512) → row_at sets.labels q ≡ (start_cells b q).lab
      go (yes l) = h.labels_are q l ∙ sym (start_label b q l)
      go (no g) =
          get_or-eq_default sets.labels [] (omega (arith, h.long))
          ∙ sym (ap (λ (c : Lab _). c.lab) (start_beyond b q (omega arith)))

  cells_same : cells_held amounts sets ≡ start_cells b
  unfolding cells_held start_cells cells_of
  cells_same = λ i q. record { val = record { present = has ((h.present_is ∙ load.1) i) q; amount = get_or (load.0 i) q (pos 0) }; lab = label_same q i }

  rights_same : rights_in sets ≡ start_rights b
  unfolding start_rights
  rights_same = (λ i. record { read = rows (h.read_are i); write = rows (h.write_are i) }) ∙ ap start_rights same ∙ script_start b

  module _ {budget : ℕ} {amounts' : List ℤ} {sets' : Sets} {run' : Run} {trace' : List ℕ} {loan loan' : ℕ} {r : Outcome} (m : Memory)
      (d : (vars : ℕ → Lab ℤ) → Does (Programs code 0) vars (store amounts sets (begun budget) m.trace loan) r vars (store amounts' sets' run' trace' loan')) where
    abbrev vars : ℕ → Lab ℤ
    vars = sixteen (lit (pos 0))

    -- the run of the programs is the book's, with the budget for fuel
    runs_book : Programs code 0 budget (state vars (store amounts sets (begun budget) m.trace loan)) ≡ run_book true b budget (length m.trace / 8)
    unfolding run_book run start_state
    runs_book =
        rw (same, cells_same, sub-zero (length m.trace))
        (ap (λ (rights : Rights). run (script b) monitored budget (record { cells = start_cells b; vars = vars; rights = rights; left = budget; room = length m.trace / 8 })) rights_same)

    -- and what they leave, with the cells stored, is what the call leaves
    pub run_gives : {left : List ℤ} {presence labels : List ℕ}
        → (left ≡ amounts_in (cells_held amounts' sets')) × (presence ≡ presence_in (cells_held amounts' sets')) × (labels ≡ labels_in (cells_held amounts' sets') 512)
        → result (answer_of r run' budget) (lent left presence labels trace') ≡ answered true file budget m (Ok tt)
    unfolding answered memory_after with_records
    run_gives e =
        let does = d vars in
        let n : ℕ = 8 * length does.records in
        let trace = does.leaves.trace_is ∙ ap (λ (k : ℕ). trace_bytes does.records ++ drop k m.trace) (zero-add n) in
        (λ i. result (answer_of r run' budget) (lent (e.0 i) (e.1 i) (e.2 i) (trace i)))
        ∙ sym (ended_result budget m r does.records vars (store amounts' sets' run' trace' loan') (does.leaves.used_is ∙ zero-add n))
        ∙ ap (result_of budget m) (sym (does.is budget (le_refl budget)) ∙ runs_book)

    pub run_obstacle : (old : Label) → obstacle_of r run' sets' ≡ obstacle_after file budget m old (Ok tt)
    unfolding obstacle_after
    run_obstacle old =
        let does = d vars in
        ended_obstacle r run' sets' does.records (state vars (store amounts' sets' run' trace' loan'))
        ∙ ap obstacle_at (sym (does.is budget (le_refl budget)) ∙ runs_book)
