-- From one day to the next: a book that was written starts with the cells of lent memory, so two books written of cells that are the same inside a
-- set differ only outside it. Assumes nothing.
use mathlib.Core.Path.{◌≡◌, refl, sym, ap, ◌∙◌}
use mathlib.Core.List.{List}
use mathlib.Core.Bool.{cond}
use Prim.Native.Nat.{ℕ, ◌<◌}
use lib.IntN.{pos}
use lib.ListN.{get_or, take}
use Rattle.places.specs.Sets.{has}
use Rattle.book.specs.Records.{Book, SameScripts}
use Rattle.book.specs.Layout.{decode}
use Rattle.book.specs.Refusals.{need, verdict, Verdict}
use Rattle.std.specs.Prelude.{Ok, Err}
use Rattle.book.proofs.Tabulate.{tabulate_at}
use Rattle.book.proofs.Verdicts.{accepts_both}
use Rattle.monitor.specs.Labelled.{Label, Lab}
use Rattle.monitor.specs.Run.{Cell}
use Rattle.monitor.specs.Call.{Memory, cells_of, start_cells}
use Rattle.claims.specs.TwoBooks.{InsideEither, SameInside, DifferOutside, cells_in}
use Rattle.writer.specs.Write.{write_fits, write_verdict, rewritten, write_answer, WriteCall, write_call}
use Rattle.writer.specs.Claims.{present_amounts, Rewritten, ReadsBack}
use Rattle.chains.specs.Chains.{Writing}
use Rattle.book.specs.declared.Reason.TheVariants as reasons

-- ---- one book that was written

-- a cell as it is written and read back: an absent one has no amount
unfoldable pub kept : Lab Cell → Lab Cell
kept c = record { val = record { present = c.val.present; amount = cond c.val.present c.val.amount (pos 0) }; lab = c.lab }

starts_kept : {file : List ℕ} (m : Memory) (new : List ℕ) → Rewritten file m.amounts m.presence m.labels new
    → (q : ℕ) → q < 512 → start_cells (decode new) q ≡ kept (cells_in m q)
unfolding start_cells cells_of kept present_amounts
starts_kept m new w q h =
    rw (w.amounts_start, w.presence_starts, w.labels_start, tabulate_at (λ p. cond (has m.presence p) (get_or m.amounts p (pos 0)) (pos 0)) 512 q (pos 0) h)

-- ---- a call that wrote

wrote_accepts : (v : Verdict) (new : List ℕ) {n : ℕ} → write_answer v new ≡ Ok n → v ≡ Ok tt
wrote_accepts (Ok _) new e = refl
wrote_accepts (Err refusal) new e = cc

module _ (reads_back : ReadsBack) {file : List ℕ} {m : Memory} (w : Writing file m) {n : ℕ} (e : w.answer ≡ Ok n) where
  called : (write_call file m.amounts m.presence m.labels w.out).answer ≡ Ok n
  called = sym (ap (λ (x : WriteCall). x.answer) w.writes) ∙ e

  passed : write_verdict file m.amounts m.presence m.labels w.out ≡ Ok tt
  unfolding write_call
  passed = wrote_accepts (write_verdict file m.amounts m.presence m.labels w.out) (rewritten file m.amounts m.presence m.labels) called

  -- the day's file is accepted
  pub file_accepted : verdict file ≡ Ok tt
  unfolding write_verdict
  file_accepted = (accepts_both (need reasons.Lent (write_fits m.amounts m.presence m.labels w.out)) (verdict file) passed).1

  pub is_rewritten : Rewritten file m.amounts m.presence m.labels (take n w.written)
  unfolding ReadsBack
  is_rewritten =
      let o : (write_call file m.amounts m.presence m.labels w.out).out ≡ w.written = sym (ap (λ (x : WriteCall). x.out) w.writes) in
      rw (← o) (reads_back file w.bytes m.amounts w.amounts m.presence w.presence m.labels w.labels w.out n called)

  pub new_scripts : SameScripts (decode (take n w.written)) (decode file)
  new_scripts = is_rewritten.scripts

  pub new_starts : (q : ℕ) → q < 512 → start_cells (decode (take n w.written)) q ≡ kept (cells_in m q)
  new_starts = starts_kept m (take n w.written) is_rewritten

-- ---- two of them

pub scripts_sym : {b b' : Book} → SameScripts b b' → SameScripts b' b
scripts_sym h = record {
  regions = sym h.regions;
  rights = sym h.rights;
  nodes = sym h.nodes;
  programs = sym h.programs;
  triggers = sym h.triggers;
}

scripts_trans : {a b c : Book} → SameScripts a b → SameScripts b c → SameScripts a c
scripts_trans h l = record {
  regions = h.regions ∙ l.regions;
  rights = h.rights ∙ l.rights;
  nodes = h.nodes ∙ l.nodes;
  programs = h.programs ∙ l.programs;
  triggers = h.triggers ∙ l.triggers;
}

-- cells that are the same inside a set are so as they are read back: labels are kept, and equal cells are read as equal ones
kept_same : {R : Label} {x y : Lab Cell} → (InsideEither R x y → x ≡ y) → InsideEither R (kept x) (kept y) → kept x ≡ kept y
unfolding kept
kept_same h i = ap kept (h i)

pub next_differ : ReadsBack → {R : Label} {file file' : List ℕ} {m m' : Memory} (w : Writing file m) (w' : Writing file' m') {n n' : ℕ}
    → w.answer ≡ Ok n → w'.answer ≡ Ok n'
    → (verdict file ≡ Ok tt → verdict file' ≡ Ok tt → SameScripts (decode file) (decode file'))
    → SameInside R (cells_in m) (cells_in m')
    → DifferOutside R (take n w.written) (take n' w'.written)
next_differ back {R} w w' e e' s d =
    record {
      scripts =
          scripts_trans (new_scripts back w e) (scripts_trans (s (file_accepted back w e) (file_accepted back w' e')) (scripts_sym (new_scripts back w' e')));
      cells = record { same = λ q l. rw (new_starts back w e q l, new_starts back w' e' q l) (kept_same {R = R} (d.same q l)) };
    }
