-- The next day, worked out from the day's file and the cells that the day before left: a written book runs the file's script from those cells, and
-- has the file's reach. Assumes nothing.
use mathlib.Core.Path.{◌≡◌, refl, sym, ap, ◌∙◌, fun_ext, subst}
use mathlib.Core.List.{List, [], ◌∷◌}
use mathlib.Core.Bool.{Bool, true, cond, ◌&&◌}
use Prim.Native.Nat.{ℕ, zero, suc, ◌/◌, ◌≤◌, ◌<◌}
use native.Mathlib.Decide.{dec_lt}
use native.Mathlib.Omega.{arith}
use lib.Dec.{eqb, leb, ltb}
use lib.IntN.{pos}
use lib.ListN.{length, take}
use borrow.Author.Tests.{lt-ltb, le-ltb}
use Rattle.places.specs.Sets.{union}
use Rattle.book.specs.Records.{Book}
use Rattle.book.specs.Layout.{decode}
use Rattle.book.specs.Refusals.{verdict}
use Rattle.book.specs.Start.{public_set, read_sets}
use Rattle.std.specs.Prelude.{Ok}
use Rattle.book.proofs.Verdicts.{passes, need_passes}
use Rattle.monitor.specs.Labelled.{Label, Lab, lit}
use Rattle.monitor.specs.Run.{Cell, Out, sixteen}
use Rattle.monitor.specs.Rules.{region_places, monitored, run}
use Rattle.monitor.specs.Call.{Memory, Result, rows, script, start_cells, start_rights, start_state, run_book, call_verdict, result_of, answered, call, trace_records}
use Rattle.monitor.proofs.Memory.{nowhere}
use Rattle.monitor.proofs.Start.{start_beyond, script_public, script_start}
use Rattle.claims.specs.TwoBooks.{Group, members_read, granted_to, reach, cells_in}
use Rattle.claims.proofs.Views.{end}
use Rattle.claims.proofs.Sized.{fine_run, fine_end}
use Rattle.claims.proofs.Demand3.{one_script, left_cells}
use Rattle.writer.specs.Claims.{ReadsBack}
use Rattle.chains.specs.Chains.{Writing}
use Rattle.chains.proofs.Written.{kept, is_rewritten, new_scripts, new_starts}
use Rattle.book.specs.declared.Reason.TheVariants as reasons

-- ---- the reach depends on the script only

reach_of : Group → Book → Result → Label
reach_of g b r = union (public_set b) (union (members_read g b 8) (granted_to g b (trace_records r)))

members_script : (g : Group) (b : Book) (n : ℕ) → members_read g (script b) n ≡ members_read g b n
unfolding members_read start_rights
members_script g b zero = refl
members_script g b (suc n) =
    let same : rows (read_sets (script b)) ≡ rows (read_sets b) = ap (λ r. r.read) (script_start b) in
    rw (members_script g b n, same)

granted_script : (g : Group) (b : Book) (rs : List (List ℕ)) → granted_to g (script b) rs ≡ granted_to g b rs
unfolding granted_to region_places script
granted_script g b [] = refl
granted_script g b (r ∷ rs) = rw (granted_script g b rs)

reach_script : (g : Group) (b : Book) (r : Result) → reach_of g (script b) r ≡ reach_of g b r
unfolding reach_of
reach_script g b r = rw (script_public b, members_script g b 8, granted_script g b (trace_records r))

-- ---- the run

-- cells of the 512 places as they are read back
unfoldable pub next_cells : (ℕ → Lab Cell) → ℕ → Lab Cell
next_cells cells q = cond (ltb q 512) (kept (cells q)) nowhere

-- the run of a file's script from these cells
unfoldable pub run_next : List ℕ → (ℕ → Lab Cell) → ℕ → ℕ → Out (Unit {0})
run_next file cells budget room =
    let b : Book = decode file in
    run (script b) monitored budget
    (record { cells = next_cells cells; vars = sixteen (lit (pos 0)); rights = start_rights b; left = budget; room = room })

-- lent memory and a budget that are not refused
unfoldable pub lent_fits : ℕ → Memory → Bool
lent_fits budget m =
    eqb (length m.amounts) 512 && (eqb (length m.presence) 8 && (eqb (length m.labels) 4096
    && (leb (length m.trace) 65536 && leb budget 1000000)))

module _ (back : ReadsBack) {file : List ℕ} {m : Memory} (w : Writing file m) {n : ℕ} (e : w.answer ≡ Ok n) where
  new_script : script (decode (take n w.written)) ≡ script (decode file)
  new_script = one_script (new_scripts back w e)

  new_rights : start_rights (decode (take n w.written)) ≡ start_rights (decode file)
  new_rights = sym (script_start (decode (take n w.written))) ∙ ap start_rights new_script ∙ script_start (decode file)

  pub new_reach : (g : Group) (r : Result) → reach g (take n w.written) r ≡ reach g file r
  unfolding reach reach_of
  new_reach g r = sym (reach_script g (decode (take n w.written)) r) ∙ ap (λ b. reach_of g b r) new_script ∙ reach_script g (decode file) r

  module _ (cells : ℕ → Lab Cell) (h : (q : ℕ) → q < 512 → cells_in m q ≡ cells q) where
    new_cells : start_cells (decode (take n w.written)) ≡ next_cells cells
    unfolding next_cells
    new_cells = fun_ext (λ q. go q (dec_lt q 512))
      where
        go : (q : ℕ) → Dec (q < 512) → start_cells (decode (take n w.written)) q ≡ next_cells cells q
        go q (yes l) = new_starts back w e q l ∙ rw (lt-ltb q 512 l, h q l)
        go q (no g) =
            let l : 512 ≤ q = omega arith in
            start_beyond (decode (take n w.written)) q l ∙ rw (le-ltb q 512 l)

    new_run : (budget room : ℕ) → run_book true (decode (take n w.written)) budget room ≡ run_next file cells budget room
    unfolding run_book start_state run_next
    new_run budget room = λ i.
        run (new_script i) monitored budget
        (record { cells = new_cells i; vars = sixteen (lit (pos 0)); rights = new_rights i; left = budget; room = room })

    pub new_call : (budget : ℕ) (lent : Memory) → lent_fits budget lent ≡ true
        → call true (take n w.written) budget lent ≡ result_of budget lent (run_next file cells budget (length lent.trace / 8))
    unfolding lent_fits call answered call_verdict
    new_call budget lent f =
        let v : call_verdict (take n w.written) budget lent ≡ Ok tt =
        passes (verdict (take n w.written)) (need_passes reasons.Lent f) ∙ (is_rewritten back w e).accepted in
        ap (answered true (take n w.written) budget lent) v ∙ ap (result_of budget lent) (new_run budget (length lent.trace / 8))

    -- the cells that it leaves are those at its run's end
    pub new_left : (budget room : ℕ) (lent : Memory) (q : ℕ) → q < 512
        → cells_in (result_of budget lent (run_next file cells budget room)).memory q ≡ (end (run_next file cells budget room)).cells q
    new_left budget room lent q l =
        subst (λ o. cells_in (result_of budget lent o).memory q ≡ (end o).cells q) (new_run budget room)
        (left_cells budget lent (run_book true (decode (take n w.written)) budget room)
        (fine_end (fine_run true (decode (take n w.written)) budget room)).cells q l)
