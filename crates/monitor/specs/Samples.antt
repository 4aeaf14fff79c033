-- Samples for the clauses of the rules: a state and a book in which no two things are alike, and stand-ins for the children of a
-- node, which tell in which order, in which context and in which state they were run.
-- Labels here have one word, the places of table 0, where no region or empty label brings eight: unions and tests take any number.
use Rattle.std.specs.Prelude.{List, [], ◌∷◌, cond, ℕ, ◌+◌, ◌^◌, eqb, ℤ, pos, get_or}
use Rattle.book.specs.Records.{Book}
use Rattle.book.specs.Tables.{cell, owner_region, table_region, public, may_read, may_write, constant, sum, skip, program, trigger, remember}
use Rattle.monitor.specs.Labelled.{Label, Lab}
use Rattle.monitor.specs.Run.{Cell, held, absent, State, Rec, said, changed, Out, done, stop, M, spend}
use Rattle.monitor.specs.Rules.{Key, Env}

-- ---- how a run ended

-- its records, and its value, or the number, the node and the two sets of its stop
pub data Ending (A : Type 0) : Type 0 where
  went : List Rec → A → Ending A
  halted : List Rec → ℕ → ℕ → Label → Label → Ending A

abbrev pub ending : {A : Type 0} → Out A → Ending A
ending (done t a s) = went t a
ending (stop t h s) = halted t h.number h.node h.compared.tested h.compared.bound

-- the state that it left
abbrev pub final : {A : Type 0} → Out A → State
final (done t a s) = s
final (stop t h s) = s

-- what is left of the budget, and the room of the trace
abbrev pub counts : State → List ℕ
counts s = s.left ∷ s.room ∷ []

-- ---- values

abbrev pub labelled : {A : Type 0} → A → ℕ → Lab A
labelled a word = record { val = a; lab = word ∷ [] }

-- places of table 0, in eight words
abbrev pub eight : ℕ → Label
eight word = word ∷ 0 ∷ 0 ∷ 0 ∷ 0 ∷ 0 ∷ 0 ∷ 0 ∷ []

abbrev pub key_of : ℤ → ℤ → Key
key_of owner line = record { owner = owner; line = line }

-- ---- a state

-- Cell q holds q and has its own place for its label. Cell 6 is absent. Cell 10, owner 1's line 2 in table 0, has places 1, 2 and 4 too,
-- and cell 74, the same in table 1, has these alone.
abbrev pub sample_cells : ℕ → Lab Cell
sample_cells q = labelled (cond (eqb q 6) absent (held (pos q))) (cond (eqb q 10) 1046 (cond (eqb q 74) 22 (2 ^ q)))

-- Variable p is 10 + p. The labels of all but variable 4 have place 4; user 3 may write places 0 and 10, and user 5 place 74.
abbrev pub sample : State
sample = record {
  cells = sample_cells;
  vars = λ p. labelled (pos (10 + p)) (16 + 2 ^ p);
  rights = record { read = λ u. (2 ^ u + 2 ^ (8 + u)) ∷ []; write = λ u. cond (eqb u 3) (1025 ∷ []) (cond (eqb u 5) (0 ∷ 1024 ∷ []) (0 ∷ [])) };
  left = 100;
  room = 5;
}

-- with so much left of the budget, and so much room in the trace
abbrev pub having : ℕ → ℕ → State
having left room = record { cells = sample.cells; vars = sample.vars; rights = sample.rights; left = left; room = room }

-- ---- a book

-- Places 4 and 5 of table 0 are public; regions 1 and 2 are owner 1 of table 0, which is places 8 to 15, and table 1. The labels of cell
-- (1,2,3) and of (1,2,5), which is absent, are places 0 and 2, and none.
abbrev pub small_book : Book
small_book = record {
  cells = cell 0 0 3 (pos 33) ∷ cell 1 2 3 (pos 44) ∷ [];
  regions = record { table = 0; owner_first = 0; owner_last = 0; line_first = 4; line_last = 5; zeros = 0 } ∷ owner_region 0 1 ∷ table_region 1 ∷ [];
  rights = public 0 ∷ may_read 5 1 ∷ may_write 6 0 ∷ [];
  nodes = constant (pos 7) ∷ sum 1 0 0 0 0 ∷ skip ∷ [];
  programs = program 4 2 ∷ [];
  triggers = trigger 1 1 5 40 ∷ trigger 1 1 6 41 ∷ trigger 1 2 7 42 ∷ trigger 2 1 4 43 ∷ trigger 1 1 2 44 ∷ [];
  labels = remember 83 (5 ∷ []) ∷ remember 85 [] ∷ [];
}

-- ---- stand-ins for children

-- node n gives n with place n for its label; it tells what was left, and uses up 1
abbrev pub giving : ℕ → M (Lab ℤ)
giving n = λ s. done (said n (pos s.left) ∷ []) (labelled (pos n) (2 ^ n)) (spend 1 s)

-- a command tells its context's first word, its user, its least trigger, its node and what was left, and uses up 1
abbrev pub running : Env → ℕ → M (Unit {0})
running e n = λ s. done (changed (get_or e.ctx 0 0) e.user e.above ∷ said n (pos s.left) ∷ []) tt (spend 1 s)

-- user 3's command, and one of user 0, in the context of place 4; their writes fire triggers from 1 on
abbrev pub here : Env
here = record { ctx = 16 ∷ []; user = 3; above = 1 }

abbrev pub office : Env
office = record { ctx = 16 ∷ []; user = 0; above = 1 }
