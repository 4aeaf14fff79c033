-- Demand 3, about two whole calls and any set that holds the reach, from what two runs of one script show a group (TwoRuns.antt). Assumes nothing.
use mathlib.Core.Path.{◌≡◌, refl, sym, ap, ◌∙◌, subst}
use mathlib.Core.List.{List, [], map}
use mathlib.Core.Bool.{true, false≢true}
use mathlib.Core.Logic.{◌⊎◌, inl, inr}
use Prim.Native.Nat.{ℕ, ◌/◌, ◌≤◌, ◌<◌}
use native.Mathlib.Decide.{dec_lt}
use native.Mathlib.Omega.{arith}
use lib.ListN.{length}
use Rattle.places.specs.Sets.{Within}
use Rattle.places.proofs.Sets.{within_refl, within_trans}
use Rattle.book.specs.Records.{Book, SameScripts}
use Rattle.book.specs.Layout.{decode}
use Rattle.book.specs.Refusals.{Verdict}
use Rattle.std.specs.Prelude.{Ok, Err}
use Rattle.monitor.specs.Labelled.{Label}
use Rattle.monitor.specs.Run.{Out, done, stop}
use Rattle.monitor.specs.Rules.{monitored, run}
use Rattle.monitor.specs.Call.{Memory, record_bytes, script, start_cells, start_rights, start_state, run_book, call_verdict, memory_after, result_of, answered, call}
use Rattle.claims.specs.TwoBooks.{Group, accepted, finished, Begins, reach, InsideEither, SameInside, DifferOutside, cells_in}
use Rattle.claims.specs.Claims.{LearnsNothing, Demand3, Demand3Within}
use Rattle.claims.proofs.Views.{records, end, is_done, seen_of, Begun}
use Rattle.claims.proofs.Steps.{Any}
use Rattle.monitor.proofs.Memory.{Eight, cells_kept}
use Rattle.monitor.proofs.Start.{start_beyond, script_public, script_start}
use Rattle.claims.proofs.Sized.{Fine, fine_run, fine_end, fine_records}
use Rattle.claims.proofs.Traces.{call_seen, begins_bytes}
use Rattle.claims.proofs.Reach.{reach_public, reach_read, reach_gifts}
use Rattle.claims.proofs.TwoRuns.{Agree, two_runs}

-- ---- one call

-- an accepted call is the run of its book
abbrev ran : List ℕ → ℕ → Memory → Out (Unit {0})
ran file budget m = run_book true (decode file) budget (length m.trace / 8)

pub accepted_is : (file : List ℕ) (budget : ℕ) (m : Memory) → accepted (call true file budget m).answer ≡ true
    → call true file budget m ≡ result_of budget m (ran file budget m)
unfolding call answered accepted
accepted_is file budget m h = go (call_verdict file budget m) h
  where
    go : (v : Verdict) → accepted (answered true file budget m v).answer ≡ true
        → answered true file budget m v ≡ result_of budget m (ran file budget m)
    go (Ok _) h = refl
    go (Err refusal) h = absurd (false≢true h)

finished_is : (budget : ℕ) (m : Memory) (o : Out (Unit {0})) → finished (result_of budget m o).answer ≡ true → is_done o ≡ true
unfolding finished result_of is_done
finished_is budget m (done t a s) h = refl
finished_is budget m (stop t h s) e = e

-- the cells that a call leaves are those at its run's end
pub left_cells : (budget : ℕ) (m : Memory) (o : Out (Unit {0})) → Eight (end o).cells 512
    → (q : ℕ) → q < 512 → cells_in (result_of budget m o).memory q ≡ (end o).cells q
unfolding result_of memory_after end
left_cells budget m (done t a s) h q l = cells_kept s.cells h q l
left_cells budget m (stop t e s) h q l = cells_kept s.cells h q l

-- ---- two calls

-- what two runs show a group, two calls show it
learns : (g : Group) (R : Label) (budget budget' : ℕ) (m m' : Memory) {b b' : Book} {o o' : Out (Unit {0})}
    → Fine b monitored Any o → Fine b' monitored Any o' → Agree g R o o' → LearnsNothing g R (result_of budget m o) (result_of budget' m' o')
learns g R budget budget' m m' {o} {o'} f f' a =
    let first = call_seen g budget m o (fine_records f) in
    let second = call_seen g budget' m' o' (fine_records f') in
    record {
      begins = rw (first, second) (begin a.begins);
      first_whole = λ d. rw (first, second) (begins_bytes (a.first_whole (finished_is budget m o d)));
      second_whole = λ d. rw (first, second) (begins_bytes (a.second_whole (finished_is budget' m' o' d)));
      traces = λ d d'. first ∙ ap (map record_bytes) (a.traces (finished_is budget m o d) (finished_is budget' m' o' d')) ∙ sym second;
      cells = λ d d'. record { same = cells (finished_is budget m o d) (finished_is budget' m' o' d') };
    }
  where
    begin : Begun (seen_of g (records o)) (seen_of g (records o')) ⊎ Begun (seen_of g (records o')) (seen_of g (records o))
        → Begins (map record_bytes (seen_of g (records o))) (map record_bytes (seen_of g (records o')))
        ⊎ Begins (map record_bytes (seen_of g (records o'))) (map record_bytes (seen_of g (records o)))
    begin (inl h) = inl (begins_bytes h)
    begin (inr h) = inr (begins_bytes h)

    cells : is_done o ≡ true → is_done o' ≡ true → (q : ℕ) → q < 512
        → InsideEither R (cells_in (result_of budget m o).memory q) (cells_in (result_of budget' m' o').memory q)
        → cells_in (result_of budget m o).memory q ≡ cells_in (result_of budget' m' o').memory q
    cells d d' q h =
        rw (left_cells budget m o (fine_end f).cells q h, left_cells budget' m' o' (fine_end f').cells q h) (a.cells d d' q)

-- books with the same records but for their cells have one script
pub one_script : {b b' : Book} → SameScripts b b' → script b ≡ script b'
unfolding script
one_script d = λ i.
    record { cells = []; regions = d.regions i; rights = d.rights i; nodes = d.nodes i; programs = d.programs i; triggers = d.triggers i; labels = [] }

-- cells that are the same inside R, and those beyond the 512 places
all_same : {R : Label} (b b' : Book) → SameInside R (start_cells b) (start_cells b')
    → (q : ℕ) → InsideEither R (start_cells b q) (start_cells b' q) → start_cells b q ≡ start_cells b' q
all_same b b' d q h = go (dec_lt q 512)
  where
    go : Dec (q < 512) → start_cells b q ≡ start_cells b' q
    go (yes l) = d.same q l h
    go (no n) =
        let l : 512 ≤ q = omega arith in
        start_beyond b q l ∙ sym (start_beyond b' q l)

runs_agree : (g : Group) (R : Label) (file file' : List ℕ) (budget budget' : ℕ) (m m' : Memory)
    → Within (reach g file (result_of budget m (ran file budget m))) R → DifferOutside R file file'
    → Agree g R (ran file budget m) (ran file' budget' m')
unfolding run_book start_state start_rights
runs_agree g R file file' budget budget' m m' h d =
    let b : Book = decode file in
    let b' : Book = decode file' in
    let o = ran file budget m in
    let s = start_state b budget (length m.trace / 8) in
    let s' = start_state b' budget' (length m'.trace / 8) in
    subst (λ c. Agree g R o (run c monitored budget' s')) (one_script d.scripts)
    (two_runs (script b) g R s s' budget budget'
    (sym (script_start b) ∙ ap start_rights (one_script d.scripts) ∙ script_start b')
    refl
    (rw (script_public b) (within_trans (reach_public g file budget m o) h))
    (λ u e. within_trans (reach_read g file budget m o u e) h)
    (all_same b b' d.cells)
    (within_trans (reach_gifts g file budget m o) h))

pub demand3_within : Demand3Within
demand3_within g R file file' budget budget' m m' a a' h d =
    let e = accepted_is file budget m a in
    rw (e, accepted_is file' budget' m' a')
    (learns g R budget budget' m m'
    (fine_run true (decode file) budget (length m.trace / 8))
    (fine_run true (decode file') budget' (length m'.trace / 8))
    (runs_agree g R file file' budget budget' m m' (rw e at h) d))

pub demand3 : Demand3
demand3 g file file' budget budget' m m' a a' d =
    let R = reach g file (call true file budget m) in
    demand3_within g R file file' budget budget' m m' a a' (within_refl R) d
