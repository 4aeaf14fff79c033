-- Chains of refusals, `and_then v (and_then w ..)`. For a function that returns the first: at the return after the third,
-- `sym (passes _ h₁ ∙ (passes _ h₂ ∙ stops _ h₃))`. Assumes nothing.
use mathlib.Core.Path.{◌≡◌, refl, sym, ap, ◌∙◌}
use mathlib.Core.Bool.{Bool, true, false, cond}
use mathlib.Core.List.{List}
use Prim.Native.Nat.{ℕ, ◌<◌}
use native.Mathlib.Omega.{arith}
use lib.Dec.{ltb}
use borrow.Author.Tests.{ltb-false}
use Rattle.book.specs.Layout.{count, label_section, decode}
use Rattle.book.specs.Refusals.{number_of, refusal_of, Verdict, verdict_values, and_then, need, first, first_bad, refused_at, blame, bad_cell, bad_region, bad_right, bad_node, bad_program, bad_trigger, bad_label, book_verdict}
use Rattle.std.specs.Prelude.{Option, Some, None, Ok, Err, IsErrAnd}
use Rattle.std.proofs.lemmas.Result.{err_from_is_err_and}
use Rattle.book.specs.declared.Refusal.{Refusal}
use Rattle.book.proofs.Decoded.{count_cells, count_regions, count_rights, count_nodes, count_programs, count_triggers, count_labels}
use Rattle.book.proofs.First.{first_none, below_first}
use Rattle.book.specs.declared.Reason.TheVariants as reasons
use Rattle.book.specs.declared.Reason.{Reason}

pub passes : {v : Verdict} (w : Verdict) → v ≡ Ok tt → and_then v w ≡ w
unfolding and_then
passes w e = ap (λ (u : Verdict). and_then u w) e

pub stops : {v : Verdict} {refusal : Refusal} (w : Verdict) → v ≡ Err refusal → and_then v w ≡ Err refusal
unfolding and_then
stops w e = ap (λ (u : Verdict). and_then u w) e

pub need_passes : (why : Reason) {test : Bool} → test ≡ true → need why test ≡ Ok tt
unfolding need
need_passes why e = rw e

pub need_stops : (why : Reason) {test : Bool} → test ≡ false → need why test ≡ Err (refusal_of why 0)
unfolding need
need_stops why e = rw e

-- a test before others, in numbers
pub need_values : (why : Reason) (test : Bool) (w : Verdict) → verdict_values (and_then (need why test) w) ≡ cond test (verdict_values w) (record { number = number_of why; index = 0 })
unfolding and_then need verdict_values
need_values why true w = refl
need_values why false w = refl

-- the first bad one of n records is blamed, where there is one
pub blame_is : (why : Reason) (bad : ℕ → Bool) (n : ℕ) → refused_at why (first_bad bad n) ≡ blame why bad n
unfolding first_bad blame
blame_is why bad n = go (ltb (first bad n) n)
  where
    go : (b : Bool) → refused_at why (cond b (Some (first bad n)) None) ≡ cond b (Err (refusal_of why (first bad n))) (Ok tt)
    go true = refl
    go false = refl

-- what the exit of a `?` returns, by what the call returned
pub leaves : {r w : Verdict} {refusal : Refusal} → IsErrAnd r (λ e. e ≡ refusal) → w ≡ Err refusal → r ≡ w
leaves {r = r} h q =
    let p = err_from_is_err_and r h in
    p.1 ∙ ap Err p.2 ∙ sym q

-- ---- a chain of refusals that accepts

pub accepts_both : (v w : Verdict) → and_then v w ≡ Ok tt → (v ≡ Ok tt) × (w ≡ Ok tt)
unfolding and_then
accepts_both (Ok _) w e = (refl, e)
accepts_both (Err refusal) w e = (e, cc)

pub need_accepts : (why : Reason) (test : Bool) → need why test ≡ Ok tt → test ≡ true
unfolding need
need_accepts why true e = refl
need_accepts why false e = cc

pub blame_accepts : (why : Reason) (bad : ℕ → Bool) (n : ℕ) → blame why bad n ≡ Ok tt → (i : ℕ) → i < n → bad i ≡ false
unfolding blame
blame_accepts why bad n e i h = go (ltb (first bad n) n) refl
  where
    go : (b : Bool) → ltb (first bad n) n ≡ b → bad i ≡ false
    go true q =
        let refused : Err (refusal_of why (first bad n)) ≡ Ok tt = rw q at e in
        cc
    go false q = below_first bad n i (omega (arith, ltb-false (first bad n) n q))

-- ---- the code's steps: a test was made, and needed

module _ (why : Reason) (holds : Bool) where
  pub need_met : {test : Bool} {v : Verdict} {u : Unit {0}} → test ≡ holds → v ≡ need why test → v ≡ Ok u → holds ≡ true
  need_met e q p = need_accepts why holds (rw e at (sym q ∙ p))

  -- it holds: what follows decides
  pub need_passed : {test : Bool} {v : Verdict} {u : Unit {0}} (w : Verdict) → test ≡ holds → v ≡ need why test → v ≡ Ok u → and_then (need why holds) w ≡ w
  need_passed w e q p = passes w (rw e at (sym q ∙ p))

  -- it does not
  pub need_refused : {test : Bool} {v : Verdict} {refusal : Refusal} (w : Verdict) → test ≡ holds → v ≡ need why test → v ≡ Err refusal → and_then (need why holds) w ≡ Err refusal
  need_refused w e q p = stops w (rw e at (sym q ∙ p))

-- ---- the code's steps: a first bad record was looked for, and blamed where it was found

module _ (why : Reason) (bad : ℕ → Bool) (n : ℕ) where
  pub blamed : {found : Option ℕ} {v : Verdict} → found ≡ first_bad bad n → v ≡ refused_at why found → blame why bad n ≡ v
  blamed e q = sym (q ∙ ap (refused_at why) e ∙ blame_is why bad n)

  -- none was: what follows decides
  pub passed : {found : Option ℕ} {v : Verdict} {u : Unit {0}} (w : Verdict) → found ≡ first_bad bad n → v ≡ refused_at why found → v ≡ Ok u → and_then (blame why bad n) w ≡ w
  passed w e q p = passes w (blamed e q ∙ p)

  pub no_bad : {found : Option ℕ} {v : Verdict} {u : Unit {0}} → found ≡ first_bad bad n → v ≡ refused_at why found → v ≡ Ok u → first bad n ≡ n
  no_bad e q p = first_none bad n (record { none = blame_accepts why bad n (blamed e q ∙ p) })

  -- one was
  pub refused : {found : Option ℕ} {v : Verdict} {refusal : Refusal} (w : Verdict) → found ≡ first_bad bad n → v ≡ refused_at why found → v ≡ Err refusal
      → and_then (blame why bad n) w ≡ Err refusal
  refused w e q p = stops w (blamed e q ∙ p)

-- ---- refusals 5 to 10 and 32 of a file: what is left of them from each section on

abbrev pub labels_verdict : List ℕ → Verdict
labels_verdict s = blame reasons.Label (bad_label (decode s).labels) (label_section s).count

abbrev pub triggers_verdict : List ℕ → Verdict
triggers_verdict s = and_then (blame reasons.Trigger (bad_trigger (decode s)) (count s 5)) (labels_verdict s)

abbrev pub programs_verdict : List ℕ → Verdict
programs_verdict s = and_then (blame reasons.Program (bad_program (decode s)) (count s 4)) (triggers_verdict s)

abbrev pub nodes_verdict : List ℕ → Verdict
nodes_verdict s = and_then (blame reasons.Node (bad_node (decode s)) (count s 3)) (programs_verdict s)

abbrev pub rights_verdict : List ℕ → Verdict
rights_verdict s = and_then (blame reasons.Right (bad_right (decode s)) (count s 2)) (nodes_verdict s)

abbrev pub regions_verdict : List ℕ → Verdict
regions_verdict s = and_then (blame reasons.Region (bad_region (decode s).regions) (count s 1)) (rights_verdict s)

pub counted : (s : List ℕ) → book_verdict (decode s) ≡ and_then (blame reasons.Cell (bad_cell (decode s).cells) (count s 0)) (regions_verdict s)
unfolding book_verdict
counted s = rw (count_cells s, count_regions s, count_rights s, count_nodes s, count_programs s, count_triggers s, count_labels s)
