-- The structs and slices of a run, as the state of the rules.
use Rattle.std.specs.Prelude.{◌≡◌, List, [], ◌++◌, Bool, false, cond, not, ℕ, ◌+◌, ◌-◌, ◌*◌, ◌/◌, eqb, ℤ, pos, length, get_or, take, drop, replicate}
use Rattle.std.proofs.Math.Option.{Option, none, some}
use Rattle.places.specs.Sets.{has, empty}
use Rattle.book.specs.Start.{public_set}
use Rattle.monitor.specs.Labelled.{Label, Lab}
use Rattle.monitor.specs.Run.{Cell, Rights, State, Rec, Compared}
use Rattle.monitor.specs.Call.{rows, trace_bytes}
use Rattle.machine.specs.Script.{script_of}
use Rattle.machine.specs.declared.lent.Right.{Right}
use Rattle.machine.specs.declared.lent.Right.TheVariants.{Read, Write}
use Rattle.machine.specs.declared.lent.Sets.{Sets}
use Rattle.machine.specs.declared.lent.Run.{Run}
use Rattle.machine.specs.declared.lent.Variables.{Variables}
use Rattle.machine.specs.declared.lent.Store as lent

-- ---- the sets

-- the label at i
abbrev pub row_at : List (List ℕ) → ℕ → Label
row_at labels i = get_or labels i []

-- no place, no right and no label, and no posting under way
abbrev pub empty_sets : Sets
empty_sets = record {
  present = empty 8;
  public = empty 8;
  read = replicate 8 (empty 8);
  write = replicate 8 (empty 8);
  labels = replicate 512 (empty 8);
  tested = empty 8;
  bound = empty 8;
  posting = record { under_way = false; touched = empty 8; present = empty 8; amounts = replicate 512 (pos 0); labels = replicate 512 (empty 8) };
}

-- a right's number in a book
unfoldable pub right_number : Right → ℕ
right_number Read = 1
right_number Write = 2

-- the sets of the eight users for a right
unfoldable pub users_of : Sets → Right → List (List ℕ)
users_of sets Read = sets.read
users_of sets Write = sets.write

-- sets with these for those
unfoldable pub with_users : Sets → Right → List (List ℕ) → Sets
with_users sets Read users = record {
  present = sets.present;
  public = sets.public;
  read = users;
  write = sets.write;
  labels = sets.labels;
  tested = sets.tested;
  bound = sets.bound;
  posting = sets.posting;
}
with_users sets Write users = record {
  present = sets.present;
  public = sets.public;
  read = sets.read;
  write = users;
  labels = sets.labels;
  tested = sets.tested;
  bound = sets.bound;
  posting = sets.posting;
}

-- sets with the two that a test of labels compared, for a stop
abbrev pub with_compared : Sets → Compared → Sets
with_compared sets c = record {
  present = sets.present;
  public = sets.public;
  read = sets.read;
  write = sets.write;
  labels = sets.labels;
  tested = c.tested;
  bound = c.bound;
  posting = sets.posting;
}

-- the cells: 512 amounts, and of the sets the present places and the labels
unfoldable pub cells_held : List ℤ → Sets → ℕ → Lab Cell
cells_held amounts sets q =
    record { val = record { present = has sets.present q; amount = get_or amounts q (pos 0) }; lab = row_at sets.labels q }

-- whether no posting of a program is under way
abbrev pub idle : Sets → Bool
idle sets = not sets.posting.under_way

-- The cells as they were when the posting that is under way began: a cell that it has touched as it was kept, any other as it is.
-- Presence is kept of all cells at once.
unfoldable pub began : List ℤ → Sets → ℕ → Lab Cell
began amounts sets q =
    let kept = sets.posting in
    let touched = has kept.touched q in
    record {
      val = record { present = has kept.present q; amount = cond touched (get_or kept.amounts q (pos 0)) (get_or amounts q (pos 0)) };
      lab = cond touched (row_at kept.labels q) (row_at sets.labels q);
    }

-- to what a stop would take the cells back: none while no posting is under way
unfoldable pub undo_of : List ℤ → Sets → Option (ℕ → Lab Cell)
undo_of amounts sets = cond (idle sets) none (some (began amounts sets))

abbrev pub rights_in : Sets → Rights
rights_in sets = record { read = rows sets.read; write = rows sets.write }

-- other sets of the same state: the cells, the rights and the public set
pub record SameState (amounts : List ℤ) (sets sets' : Sets) : Type 0 where
  pub cells_same : cells_held amounts sets' ≡ cells_held amounts sets
  pub rights_same : rights_in sets' ≡ rights_in sets
  pub public_same : sets'.public ≡ sets.public

-- the sixteen variables
unfoldable pub vars_of : Variables → ℕ → Lab ℤ
vars_of vars p = record { val = get_or vars.values p (pos 0); lab = row_at vars.labels p }

-- ---- all of them

-- all that a command may change but its variables, and the name of the loan that the trace is, which no command changes
pub record Store : Type 0 where
  pub amounts : List ℤ
  pub sets : Sets
  pub run : Run
  pub trace : List ℕ
  pub loan : ℕ

abbrev pub store : List ℤ → Sets → Run → List ℕ → ℕ → Store
store amounts sets run trace loan = record { amounts = amounts; sets = sets; run = run; trace = trace; loan = loan }

-- as it is lent
abbrev pub store_of : lent.Store → Store
store_of x = store x.amounts x.sets x.run x.trace.now x.trace.ghost_name

-- the records for which a trace has room when `used` of its bytes are written
abbrev pub room_in : List ℕ → ℕ → ℕ
room_in trace used = (length trace - used) / 8

abbrev pub state : (ℕ → Lab ℤ) → Store → State
state vars x = record {
  cells = cells_held x.amounts x.sets;
  vars = vars;
  rights = rights_in x.sets;
  left = x.run.left;
  room = room_in x.trace x.run.used;
}

-- the trace with these records from byte `used` on
unfoldable pub with_records : List ℕ → ℕ → List Rec → List ℕ
with_records trace used records = take used trace ++ trace_bytes records ++ drop (used + 8 * length records) trace

-- a cell as a write leaves it: event 1 puts the amount, event 2 clears
abbrev pub cell : ℕ → ℤ → Cell
cell event amount = record { present = eqb event 1; amount = amount }

-- what every command asks of the sets that it is lent: the public set is that of the script
abbrev pub Public : List ℕ → Sets → Type 0
Public code sets = sets.public ≡ public_set (script_of code)
