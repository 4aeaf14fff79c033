-- The whole call: from a file, a budget and lent memory to the answer and the memory at exit.
use Rattle.std.specs.Prelude.{List, [], ◌∷◌, ◌++◌, Bool, true, ◌&&◌, ℕ, zero, suc, ◌-◌, ◌*◌, ◌/◌, eqb, leb, ℤ, pos, length, get_or, take, drop, Ok, Err}
use Rattle.places.specs.Sets.{has, set_of}
use Rattle.labels.specs.Labels.{label_at}
use Rattle.book.specs.Bytes.{four, bits32}
use Rattle.book.specs.Records.{Book}
use Rattle.book.specs.Layout.{decode}
use Rattle.book.specs.Refusals.{number_of, and_then, need, verdict, Verdict}
use Rattle.book.specs.Start.{tabulate, start_amounts, start_presence, start_labels, read_sets, write_sets}
use Rattle.monitor.specs.Labelled.{Label, Lab, lit}
use Rattle.monitor.specs.Run.{Cell, Rights, State, Rec, said, changed, Out, done, stop, sixteen}
use Rattle.monitor.specs.Rules.{run}
use Rattle.monitor.specs.declared.Answer.{Answer}
use Rattle.monitor.specs.declared.Answer.TheVariants.{Refused, Stopped, Finished}
use Rattle.monitor.specs.declared.Values.{Values}
use Rattle.book.specs.declared.Reason.TheVariants as reasons

-- lent memory
pub record Memory : Type 0 where
  pub amounts : List ℤ
  pub presence : List ℕ
  pub labels : List ℕ
  pub trace : List ℕ

-- what a call gives back: its answer, and lent memory as it leaves it
pub record Result : Type 0 where
  pub answer : Answer
  pub memory : Memory

-- the paper's number and values for each answer; a refusal has no cost and no trace bytes, and a finished run no node
unfoldable pub values : Answer → Values
values (Refused refusal) = record { number = number_of refusal.reason; at = refusal.index; cost = 0; bytes = 0 }
values (Stopped number node cost bytes) = record { number = number; at = node; cost = cost; bytes = bytes }
values (Finished cost bytes) = record { number = 0; at = 0; cost = cost; bytes = bytes }

-- ---- cells in lent memory: 512 amounts, 8 presence words, 8 label words for each cell

-- the cells that lent memory holds
unfoldable pub cells_of : List ℤ → List ℕ → List ℕ → ℕ → Lab Cell
cells_of amounts presence labels q = record { val = record { present = has presence q; amount = get_or amounts q (pos 0) }; lab = label_at labels q }

-- and lent memory from the cells
unfoldable pub amounts_in : (ℕ → Lab Cell) → List ℤ
amounts_in cells = tabulate (λ q. (cells q).val.amount) 512

unfoldable pub presence_in : (ℕ → Lab Cell) → List ℕ
presence_in cells = set_of 8 (λ q. (cells q).val.present)

-- the labels of the first n cells
unfoldable pub labels_in : (ℕ → Lab Cell) → ℕ → List ℕ
labels_in cells zero = []
labels_in cells (suc n) = labels_in cells n ++ (cells n).lab

-- ---- trace records: kind, user, region, 0, amount

unfoldable pub record_bytes : Rec → List ℕ
record_bytes (said user amount) = 1 ∷ user ∷ 0 ∷ 0 ∷ four (bits32 amount)
record_bytes (changed kind user region) = kind ∷ user ∷ region ∷ 0 ∷ four 0

unfoldable pub trace_bytes : List Rec → List ℕ
trace_bytes [] = []
trace_bytes (r ∷ rs) = record_bytes r ++ trace_bytes rs

-- ---- the start

-- the book without its cells and their labels, which is all of it that the rules look at
unfoldable pub script : Book → Book
script b = record { cells = []; regions = b.regions; rights = b.rights; nodes = b.nodes; programs = b.programs; triggers = b.triggers; labels = [] }

-- each user's set; there are no other users
unfoldable pub rows : List (List ℕ) → ℕ → Label
rows sets user = get_or sets user []

unfoldable pub start_cells : Book → ℕ → Lab Cell
start_cells b = cells_of (start_amounts b) (start_presence b) (start_labels b)

unfoldable pub start_rights : Book → Rights
start_rights b = record { read = rows (read_sets b); write = rows (write_sets b) }

unfoldable pub start_state : Book → ℕ → ℕ → State
start_state b budget room = record { cells = start_cells b; vars = sixteen (lit (pos 0)); rights = start_rights b; left = budget; room = room }

-- the run of a book; the budget is fuel enough
unfoldable pub run_book : Bool → Book → ℕ → ℕ → Out (Unit {0})
run_book labels b budget room = run (script b) (record { labels = labels; undoes = true }) budget (start_state b budget room)

-- ---- the call

-- refusal 1, then those of the file
unfoldable pub call_verdict : List ℕ → ℕ → Memory → Verdict
call_verdict file budget m =
    and_then (need reasons.Lent (eqb (length m.amounts) 512 && (eqb (length m.presence) 8 && (eqb (length m.labels) 4096
    && (leb (length m.trace) 65536 && leb budget 1000000)))))
    (verdict file)

-- the state's cells, and the records from the start of the trace; later trace bytes stay
unfoldable pub memory_after : Memory → List Rec → State → Memory
memory_after m t s = record {
  amounts = amounts_in s.cells;
  presence = presence_in s.cells;
  labels = labels_in s.cells 512;
  trace = trace_bytes t ++ drop (8 * length t) m.trace;
}

unfoldable pub result_of : ℕ → Memory → Out (Unit {0}) → Result
result_of budget m (done t a s) = record { answer = Finished (budget - s.left) (8 * length t); memory = memory_after m t s }
result_of budget m (stop t h s) = record { answer = Stopped h.number h.node (budget - s.left) (8 * length t); memory = memory_after m t s }

-- refused: nothing lent changes; else the run, with as many records as the trace has room for
unfoldable pub answered : Bool → List ℕ → ℕ → Memory → Verdict → Result
answered labels file budget m (Err refusal) = record { answer = Refused refusal; memory = m }
answered labels file budget m (Ok _) = result_of budget m (run_book labels (decode file) budget (length m.trace / 8))

unfoldable pub call : Bool → List ℕ → ℕ → Memory → Result
call labels file budget m = answered labels file budget m (call_verdict file budget m)

-- ---- the trace that a call leaves

-- n records of eight bytes
unfoldable pub cut : ℕ → List ℕ → List (List ℕ)
cut zero s = []
cut (suc n) s = take 8 s ∷ cut n (drop 8 s)

-- its records: only the bytes that the answer counts as written
unfoldable pub trace_records : Result → List (List ℕ)
trace_records r = cut ((values r.answer).bytes / 8) r.memory.trace
