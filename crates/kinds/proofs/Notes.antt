-- A table of notes on the nodes that a loop has passed, one for each node. Assumes nothing.
use mathlib.Core.Path.{◌≡◌, ◌∙◌}
use mathlib.Core.List.{List}
use Prim.Native.Nat.{ℕ, ◌+◌, ◌<◌}
use native.Mathlib.Decide.{ℕ_discrete}
use native.Mathlib.Nat.{not-suc-le-zero}
use native.Mathlib.Omega.{arith}
use lib.ListN.{length, get_or, set, length-set}
use lib.Seq.{get_or-set_same, get_or-set_other}

-- the notes on the nodes below n are what f says of them
pub record Noted {A : Type 0} (f : ℕ → A) (d : A) (notes : List A) (n : ℕ) : Type 0 where
  pub room : length notes ≡ 1024
  pub right : (i : ℕ) → i < n → get_or notes i d ≡ f i

module _ {A : Type 0} {f : ℕ → A} {d : A} {notes : List A} where
  pub noted_none : length notes ≡ 1024 → Noted f d notes 0
  noted_none e = record { room = e; right = λ i h. absurd (not-suc-le-zero h) }

  -- one more note
  pub noted_next : {n : ℕ} {note : A} → n < 1024 → note ≡ f n → Noted f d notes n → Noted f d (set notes n note) (n + 1)
  noted_next {n} {note} h e t = record { room = length-set notes n note ∙ t.room; right = λ i l. go i l (ℕ_discrete i n) }
    where
      go : (i : ℕ) → i < n + 1 → Dec (i ≡ n) → get_or (set notes n note) i d ≡ f i
      go i l (yes q) = rw q (get_or-set_same notes n note d (omega (arith, t.room)) ∙ e)
      go i l (no q) = get_or-set_other notes n i note d q ∙ t.right i (omega arith)
