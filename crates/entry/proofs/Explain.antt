-- The explanation of a call is counted from the places in the way of its end. Assumes nothing.
use mathlib.Core.Path.{◌≡◌, refl, sym, ap, ◌∙◌, fun_ext}
use mathlib.Core.List.{List}
use mathlib.Core.Bool.{Bool, true, false, cond}
use Prim.Native.Nat.{ℕ}
use lib.ListN.{length}
use Rattle.places.specs.Sets.{has, tally, size, least, lowest, difference}
use Rattle.places.proofs.Sets.{has_difference}
use Rattle.book.specs.Refusals.{Verdict}
use Rattle.monitor.specs.Labelled.{Label, bottom}
use Rattle.monitor.specs.Run.{Compared, about_labels, Out, done, stop}
use Rattle.monitor.specs.Call.{Memory, call_verdict}
use Rattle.monitor.specs.Explain.{stands, Explanation, reason, no_reason, explanation, explained, explain_call}
use Rattle.entry.specs.Entry.{Runs}
use Rattle.entry.specs.Explain.{Explains, obstacle, obstacle_at, obstacle_after, obstacle_called}
use Rattle.entry.specs.Explain as promises
use Rattle.entry.specs.declared.Explained.{Explained}
use Rattle.std.specs.Prelude.{Ok, Err}

abbrev pub counted : Label → Explanation
counted places = record { place = lowest places; count = size places }

counted_none : counted bottom ≡ no_reason
unfolding lowest least size tally has
counted_none = refl

-- the places of a difference of eight words are those that stand in the one set and not in the other
reason_counted : (c : Compared) → length (difference c.tested c.bound) ≡ 8 → reason c ≡ counted (difference c.tested c.bound)
unfolding reason stands lowest size
reason_counted c l = rw (l, fun_ext (has_difference c.tested c.bound))

stop_counted : (number : ℕ) (c : Compared) → length (obstacle number c) ≡ 8 → cond (about_labels number) (reason c) no_reason ≡ counted (obstacle number c)
unfolding obstacle
stop_counted number c = go (about_labels number)
  where
    go : (b : Bool) → length (cond b (difference c.tested c.bound) bottom) ≡ 8
        → cond b (reason c) no_reason ≡ counted (cond b (difference c.tested c.bound) bottom)
    go true l = reason_counted c l
    go false l = sym counted_none

end_counted : (o : Out (Unit {0})) → length (obstacle_at o) ≡ 8 → explanation o ≡ counted (obstacle_at o)
unfolding explanation obstacle_at
end_counted (done t a s) l = sym counted_none
end_counted (stop t h s) l = stop_counted h.number h.compared l

pub explained_counted : (file : List ℕ) (budget : ℕ) (m : Memory) (v : Verdict) → length (obstacle_after file budget m bottom v) ≡ 8
    → explained file budget m v ≡ counted (obstacle_after file budget m bottom v)
unfolding explained obstacle_after
explained_counted file budget m (Err refusal) l = sym counted_none
explained_counted file budget m (Ok _) l = end_counted _ l

-- a call of the run that leaves these places, and their count and the lowest of them
pub explains : (file : List ℕ) (budget : ℕ) (before after : Memory) (r : Explained) {places : Label} → Runs file budget before r.answer after
    → places ≡ obstacle_called file budget before bottom → length places ≡ 8 → r.place ≡ lowest places → r.count ≡ size places
    → Explains file budget before r after
unfolding explain_call
explains file budget before after r e o l p c =
    let counts : (promises.explained r after).explanation ≡ explained file budget before (call_verdict file budget before) =
    (λ i. record { place = p i; count = c i }) ∙ ap counted o ∙ sym (explained_counted file budget before (call_verdict file budget before) (sym (ap length o) ∙ l)) in
    λ i. record { result = e i; explanation = counts i }
