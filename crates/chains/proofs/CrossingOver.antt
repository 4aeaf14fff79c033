-- A book that is loaded and written back runs as before: files that are accepted and have the same records run alike. Assumes nothing.
use mathlib.Core.Path.{◌≡◌, refl, sym, ap, ◌∙◌}
use mathlib.Core.List.{List}
use mathlib.Core.Bool.{true}
use mathlib.Core.Logic.{◌↔◌}
use Prim.Native.Nat.{ℕ}
use lib.ListN.{take}
use Rattle.book.specs.Layout.{decode}
use Rattle.book.specs.Refusals.{verdict, Verdict}
use Rattle.std.specs.Prelude.{Ok, Err}
use Rattle.monitor.specs.Call.{Memory, call_verdict, answered, call}
use Rattle.monitor.specs.declared.Answer.{Answer}
use Rattle.entry.specs.Entry.{Runs}
use Rattle.writer.specs.Write.{WriteCall, Written}
use Rattle.writer.specs.Claims.{WrittenBack, SameBook}
use Rattle.chains.specs.Claims.{RunsAsBefore}

module _ (new file : List ℕ) (v : verdict new ≡ verdict file) (e : decode new ≡ decode file) where
  -- what is answered depends on the records only
  answered_alike : (budget : ℕ) (m : Memory) (w : Verdict) → answered true new budget m w ≡ answered true file budget m w
  unfolding answered
  answered_alike budget m (Err refusal) = refl
  answered_alike budget m (Ok _) = rw e

  calls_alike : (budget : ℕ) (m : Memory) → call true new budget m ≡ call true file budget m
  unfolding call call_verdict
  calls_alike budget m = answered_alike budget m (call_verdict new budget m) ∙ rw v

  runs_alike : (budget : ℕ) (before after : Memory) (r : Answer) → Runs new budget before r after ↔ Runs file budget before r after
  runs_alike budget before after r = (λ h. h ∙ calls_alike budget before, λ h. h ∙ sym (calls_alike budget before))

-- ---- written back

length_of : Written → ℕ
length_of (Err refusal) = 0
length_of (Ok n) = n

back_alike : (file : List ℕ) → verdict file ≡ Ok tt → (w : WriteCall) → WrittenBack file w → (n : ℕ) → w.answer ≡ Ok n
    → (budget : ℕ) (before after : Memory) (r : Answer) → Runs (take n w.out) budget before r after ↔ Runs file budget before r after
unfolding length_of
back_alike file v w b n e =
    let same : n ≡ b.bytes = ap length_of (sym e ∙ b.answered) in
    rw same (runs_alike (take b.bytes w.out) file (b.accepted ∙ sym v) b.same_records)

pub runs_as_before : SameBook → RunsAsBefore
unfolding SameBook
runs_as_before same file bytes v amounts presence labels lengths out long n e = back_alike file v _ (same file bytes v amounts presence labels lengths out long) n e
