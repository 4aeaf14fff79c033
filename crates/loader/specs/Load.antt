-- Loading: from all that the call is given to all that it leaves.
use Rattle.std.specs.Prelude.{◌≡◌, List, Bool, ◌&&◌, cond, ℕ, eqb, ℤ, length, Ok, Err}
use Rattle.book.specs.Layout.{decode}
use Rattle.book.specs.Refusals.{verdict_values, and_then, need, verdict, Verdict}
use Rattle.book.specs.Start.{start_amounts, start_presence, start_labels}
use Rattle.book.specs.declared.Reason.TheVariants as reasons

-- what a call leaves: the new where the verdict accepts, and else what was there; nothing lent changes on a refusal
abbrev pub where_accepted : {A : Type 0} → Verdict → A → A → A
where_accepted (Ok _) new old = new
where_accepted (Err refusal) new old = old

-- 1: 512 amounts, 8 presence words, 4,096 label words
abbrev pub lent_fits : List ℤ → List ℕ → List ℕ → Bool
lent_fits amounts presence labels = eqb (length amounts) 512 && (eqb (length presence) 8 && eqb (length labels) 4096)

-- refusal 1, then 2 to 10 and 32
unfoldable pub load_verdict : List ℕ → List ℤ → List ℕ → List ℕ → Verdict
load_verdict file amounts presence labels = and_then (need reasons.Lent (lent_fits amounts presence labels)) (verdict file)

-- the answer, and the lent memory afterwards
pub record Loaded : Type 0 where
  pub answer : Verdict
  pub amounts : List ℤ
  pub presence : List ℕ
  pub labels : List ℕ

unfoldable pub load_call : (file : List ℕ) (amounts : List ℤ) (presence labels : List ℕ) → Loaded
load_call file amounts presence labels =
    let v : Verdict = load_verdict file amounts presence labels in
    record {
      answer = v;
      amounts = where_accepted v (start_amounts (decode file)) amounts;
      presence = where_accepted v (start_presence (decode file)) presence;
      labels = where_accepted v (start_labels (decode file)) labels;
    }

-- what `load` ensures of its answer, in the paper's numbers: 1 with index 0 for a lent length, else those of the file's verdict
abbrev pub LoadValues : Type 0
LoadValues =
    (file : List ℕ) (amounts a : List ℤ) (presence p labels l : List ℕ) (r : Verdict)
    → record { answer = r; amounts = a; presence = p; labels = l } ≡ load_call file amounts presence labels
    → verdict_values r ≡ cond (lent_fits amounts presence labels) (verdict_values (verdict file)) (record { number = 1; index = 0 })
