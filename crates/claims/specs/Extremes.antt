-- Smallest and largest by the places of a range: what Change 4 turns on. A range in which no cell is present has none, and the run stops with 31
-- (`found` of the rules); any other range has one, which one of its present cells holds and no other beats.
use Rattle.std.specs.Prelude.{◌≡◌, Bool, true, false, ℕ, ◌+◌, ◌*◌, ◌<◌, ℤ, pos, Option, Some, None}
use Rattle.std.specs.Int.Signed.{lt_z}
use Rattle.monitor.specs.Labelled.{Lab}
use Rattle.monitor.specs.Run.{Cell, State, halt}
use Rattle.monitor.specs.Rules.{Box, in_box, gather, seen, aggregate, found}

-- place q of table p lies in the box, and its cell is present with amount z
pub record Present (cells : ℕ → Lab Cell) (p : ℕ) (x : Box) (q : ℕ) (z : ℤ) : Type 0 where
  pub below : q < 64
  pub inside : in_box x (64 * p + q) ≡ true
  pub present : (cells (64 * p + q)).val.present ≡ true
  pub amount : (cells (64 * p + q)).val.amount ≡ z

-- no cell of the range is present
abbrev pub NonePresent : (ℕ → Lab Cell) → ℕ → Box → Type 0
NonePresent cells p x = (q : ℕ) (z : ℤ) → Present cells p x q z → ⊥

-- a present cell of the range holds z, and none holds an amount that beats z
pub record Best (beats : ℤ → ℤ → Bool) (cells : ℕ → Lab Cell) (p : ℕ) (x : Box) (z : ℤ) : Type 0 where
  pub at : ℕ
  pub held : Present cells p x at z
  pub unbeaten : (q : ℕ) (w : ℤ) → Present cells p x q w → beats w z ≡ false

-- what a query of this kind finds over the box of table p
abbrev pub finds : ℕ → (ℕ → Lab Cell) → ℕ → Box → Option ℤ
finds kind cells p x = aggregate kind (gather cells (in_box x) (64 * p) 64).val

-- nothing where no cell of the range is present, and only there; an amount is the best. So a query whose bounds are worked out, x, stops with
-- 31 on its node i where no cell between them is present
pub record FindsBest (kind : ℕ) (beats : ℤ → ℤ → Bool) : Type 0 where
  pub nothing : (cells : ℕ → Lab Cell) (p : ℕ) (x : Box) → NonePresent cells p x → finds kind cells p x ≡ None
  pub only_there : (cells : ℕ → Lab Cell) (p : ℕ) (x : Box) → finds kind cells p x ≡ None → NonePresent cells p x
  pub exact : (cells : ℕ → Lab Cell) (p : ℕ) (x : Box) (z : ℤ) → finds kind cells p x ≡ Some z → Best beats cells p x z
  pub stops : (i p : ℕ) (x : Lab Box) (s : State) → NonePresent s.cells p x.val → found i (seen p x s).lab (aggregate kind (seen p x s).val) ≡ halt 31 i

-- 10 smallest, 11 largest; 8 count and 9 sum are amounts in every range, and 0 where no cell is present
pub record Extremes : Type 0 where
  pub smallest : FindsBest 10 lt_z
  pub largest : FindsBest 11 (λ x y. lt_z y x)
  pub count_there : (cells : ℕ → Lab Cell) (p : ℕ) (x : Box) → finds 8 cells p x ≡ None → ⊥
  pub sum_there : (cells : ℕ → Lab Cell) (p : ℕ) (x : Box) → finds 9 cells p x ≡ None → ⊥
  pub count_zero : (cells : ℕ → Lab Cell) (p : ℕ) (x : Box) → NonePresent cells p x → finds 8 cells p x ≡ Some (pos 0)
  pub sum_zero : (cells : ℕ → Lab Cell) (p : ℕ) (x : Box) → NonePresent cells p x → finds 9 cells p x ≡ Some (pos 0)
