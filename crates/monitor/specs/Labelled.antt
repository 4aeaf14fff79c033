-- Labelled values: a value with the set of places that it may tell of (the paper's label), and how the labels of values are joined.
-- A context's label, context plus key label or value label, and a raised variable's label are joined by `union` in Rules.antt.
use Rattle.std.specs.Prelude.{List, ℕ}
use Rattle.places.specs.Sets.{empty, union}

abbrev pub Label : Type 0
Label = List ℕ

-- the empty label
abbrev pub bottom : Label
bottom = empty 8

pub record Lab (A : Type 0) : Type 0 where
  pub val : A
  pub lab : Label

-- a value that tells of nothing
unfoldable pub lit : {A : Type 0} → A → Lab A
lit a = record { val = a; lab = bottom }

-- "the union of its parts' labels": of one part, and of two
unfoldable pub lift : {A B : Type 0} → (A → B) → Lab A → Lab B
lift f x = record { val = f x.val; lab = x.lab }

unfoldable pub lift2 : {A B C : Type 0} → (A → B → C) → Lab A → Lab B → Lab C
lift2 f x y = record { val = f x.val y.val; lab = union x.lab y.lab }

-- what f shows at the value of x tells of x too
unfoldable pub via : {A B : Type 0} → Lab A → (A → Lab B) → Lab B
via x f = record { val = (f x.val).val; lab = union x.lab (f x.val).lab }

-- a value in a context
unfoldable pub under : {A : Type 0} → Label → Lab A → Lab A
under c x = record { val = x.val; lab = union c x.lab }
