-- A refusal's index is below 1,024: it is 0, or that of a record. Assumes nothing.
use mathlib.Core.Path.{◌≡◌, refl, sym, subst}
use mathlib.Core.List.{List}
use mathlib.Core.Bool.{Bool, true, false, cond}
use Prim.Native.Nat.{ℕ, ◌≤◌, ◌<◌}
use native.Mathlib.Omega.{arith}
use lib.Dec.{ltb, lit<}
use borrow.Author.Tests.{ltb-true}
use Rattle.book.specs.Layout.{decode}
use Rattle.book.specs.Refusals.{refusal_of, verdict_values, and_then, need, first, blame, book_verdict, verdict, Verdict}
use Rattle.std.specs.Prelude.{Ok, Err}
use Rattle.book.proofs.Accepted.{Sited, sited}
use Rattle.book.proofs.Verdicts.{need_accepts, counted}
use Rattle.book.specs.declared.Reason.TheVariants as reasons
use Rattle.book.specs.declared.Reason.{Reason}

-- the index that is told
abbrev pub Low : Verdict → Type 0
Low v = (verdict_values v).index < 1024

pub low_need : (why : Reason) (test : Bool) → Low (need why test)
unfolding need verdict_values
low_need why true = lit< tt
low_need why false = lit< tt

pub low_then : (v w : Verdict) → Low v → (v ≡ Ok tt → Low w) → Low (and_then v w)
unfolding and_then verdict_values
low_then (Ok _) w l h = h refl
low_then (Err refusal) w l h = l

low_blame : (why : Reason) (bad : ℕ → Bool) (n : ℕ) → n ≤ 1024 → Low (blame why bad n)
unfolding blame verdict_values
low_blame why bad n h = go (ltb (first bad n) n) refl
  where
    go : (b : Bool) → ltb (first bad n) n ≡ b → Low (cond b (Err (refusal_of why (first bad n))) (Ok tt))
    go true e = omega (arith, ltb-true (first bad n) n e)
    go false e = lit< tt

low_book : (s : List ℕ) → Sited s → Low (book_verdict (decode s))
low_book s t =
    subst Low (sym (counted s))
    (low_then _ _ (low_blame reasons.Cell _ _ (omega (arith, t.few_cells))) λ _.
    low_then _ _ (low_blame reasons.Region _ _ (omega (arith, t.few_regions))) λ _.
    low_then _ _ (low_blame reasons.Right _ _ (omega (arith, t.few_rights))) λ _.
    low_then _ _ (low_blame reasons.Node _ _ (omega (arith, t.few_nodes))) λ _.
    low_then _ _ (low_blame reasons.Program _ _ (omega (arith, t.few_programs))) λ _.
    low_then _ _ (low_blame reasons.Trigger _ _ (omega (arith, t.few_triggers))) λ _.
    low_blame reasons.Label _ _ (omega (arith, t.few_labels)))

pub low_verdict : (s : List ℕ) → Low (verdict s)
unfolding verdict
low_verdict s =
    low_then _ _ (low_need reasons.Length _) λ l.
    low_then _ _ (low_need reasons.Mark _) λ _.
    low_then _ _ (low_need reasons.Sections _) λ o.
    low_book s (sited s (need_accepts reasons.Length _ l) (need_accepts reasons.Sections _ o))
