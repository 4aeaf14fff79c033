-- Refusals 2 to 10 and 32: the number and the first bad record's index, in the paper's order.
use Rattle.std.specs.Prelude.{◌≡◌, List, [], ◌∷◌, Bool, true, false, ◌&&◌, ◌||◌, not, cond, ℕ, zero, suc, ◌+◌, eqb, leb, ltb, ℤ, pos, negsuc, length, get_or, Option, Some, None, Result, Ok, Err}
use Rattle.labels.specs.Labels.{is_own}
use Rattle.book.specs.Bytes.{byte, le24, le32}
use Rattle.book.specs.Records.{CellRecord, RegionRecord, RightRecord, NodeRecord, ProgramRecord, TriggerRecord, LabelRecord, Book, place_of, label_of}
use Rattle.book.specs.Layout.{trailer, version, bounds, in_order, decode}
use Rattle.book.specs.Kinds.{no_kind, expression, command, variable, table, user, region, right, constant, between, sort_of, Fields, fields_of}
use Rattle.book.specs.declared.Reason.{Reason}
use Rattle.book.specs.declared.Refusal.{Refusal}
use Rattle.book.specs.declared.Reason.TheVariants as reasons

-- the paper's number of each reason
abbrev pub number_of : Reason → ℕ
number_of reasons.Lent = 1
number_of reasons.Length = 2
number_of reasons.Mark = 3
number_of reasons.Sections = 4
number_of reasons.Cell = 5
number_of reasons.Region = 6
number_of reasons.Right = 7
number_of reasons.Node = 8
number_of reasons.Program = 9
number_of reasons.Trigger = 10
number_of reasons.Label = 32

abbrev pub refusal_of : Reason → ℕ → Refusal
refusal_of why index = record { reason = why; index = index }

-- what the checks of a file find: nothing wrong, or a refusal
abbrev pub Verdict : Type 0
Verdict = Result (Unit {0}) Refusal

-- a verdict in the paper's numbers
pub record VerdictValues : Type 0 where
  pub number : ℕ
  pub index : ℕ

-- of a file that is accepted both are 0
unfoldable pub verdict_values : Verdict → VerdictValues
verdict_values (Ok _) = record { number = 0; index = 0 }
verdict_values (Err refusal) = record { number = number_of refusal.reason; index = refusal.index }

-- the first of two verdicts that refuses
unfoldable pub and_then : Verdict → Verdict → Verdict
and_then (Ok _) v = v
and_then (Err refusal) v = Err refusal

-- the refusal for this reason, with index 0, unless the test holds
unfoldable pub need : Reason → Bool → Verdict
need why test = cond test (Ok tt) (Err (refusal_of why 0))

-- the first number below n that f picks, or n if there is none
unfoldable pub first : (ℕ → Bool) → ℕ → ℕ
first f zero = 0
first f (suc n) =
    let k : ℕ = first f n in
    cond (ltb k n) k (cond (f n) n (suc n))

-- the first bad one of n records, where there is one
unfoldable pub first_bad : (ℕ → Bool) → ℕ → Option ℕ
first_bad bad n = cond (ltb (first bad n) n) (Some (first bad n)) None

-- the refusal for this reason of a record that was found to be bad
abbrev pub refused_at : Reason → Option ℕ → Verdict
refused_at why None = Ok tt
refused_at why (Some index) = Err (refusal_of why index)

-- the refusal for this reason of the first bad one of n records, where there is one
unfoldable pub blame : Reason → (ℕ → Bool) → ℕ → Verdict
blame why bad n = cond (ltb (first bad n) n) (Err (refusal_of why (first bad n))) (Ok tt)

-- 2: from 36 to 60,000 bytes, and the length field is the length
unfoldable pub length_fits : List ℕ → Bool
length_fits s = leb 36 (length s) && (leb (length s) 60000 && eqb (le32 s (trailer s + 32)) (length s))

-- the four bytes "BKWS"
abbrev pub mark : List ℕ
mark = 66 ∷ 75 ∷ 87 ∷ 83 ∷ []

-- whether the four bytes at `at` are those of m
unfoldable pub marked : List ℕ → ℕ → List ℕ → Bool
marked s at m =
    eqb (byte s at) (byte m 0) && (eqb (byte s (at + 1)) (byte m 1) && (eqb (byte s (at + 2)) (byte m 2) && eqb (byte s (at + 3)) (byte m 3)))

-- 3: the mark, version 1 or 2, three zero bytes
unfoldable pub mark_fits : List ℕ → Bool
mark_fits s = marked s (trailer s) mark && (between 1 2 (version s) && eqb (le24 s (trailer s + 5)) 0)

-- 4: the sections follow one another from byte 0 to what stands behind them; so version 2 has at least 40 bytes
unfoldable pub sections_fit : List ℕ → Bool
sections_fit s = in_order s 0 0 (bounds s)

-- what the checks of the records rely on: refusals 2 and 4 are passed
pub record Laid (s : List ℕ) : Type 0 where
  pub length_ok : length_fits s ≡ true
  pub sections_ok : sections_fit s ≡ true

-- 5: table, owner and line are 0 to 7, and the byte called 0 is 0
unfoldable pub cell_fits : CellRecord → Bool
cell_fits c = leb c.table 7 && (leb c.owner 7 && (leb c.line 7 && eqb c.zero 0))

abbrev pub no_cell : CellRecord
no_cell = record { table = 0; owner = 0; line = 0; zero = 0; amount = pos 0 }

-- and the place is above that of the record before
unfoldable pub rises : {A : Type 0} → (A → ℕ) → A → List A → ℕ → Bool
rises place none rs zero = true
rises place none rs (suc i) = ltb (place (get_or rs i none)) (place (get_or rs (suc i) none))

unfoldable pub bad_cell : List CellRecord → ℕ → Bool
bad_cell cells i = not (cell_fits (get_or cells i no_cell) && rises place_of no_cell cells i)

-- 6: the table is 0 to 7, first ≤ last ≤ 7, and the three bytes called 0 are 0
abbrev pub no_region : RegionRecord
no_region = record { table = 0; owner_first = 0; owner_last = 0; line_first = 0; line_last = 0; zeros = 0 }

unfoldable pub region_fits : RegionRecord → Bool
region_fits r =
    leb r.table 7 && (leb r.owner_first r.owner_last && (leb r.owner_last 7
    && (leb r.line_first r.line_last && (leb r.line_last 7 && eqb r.zeros 0))))

unfoldable pub bad_region : List RegionRecord → ℕ → Bool
bad_region regions i = not (region_fits (get_or regions i no_region))

-- 7: kind 0, 1 or 2, user 0 to 7 and 0 if public, a region that exists, and the byte called 0 is 0
abbrev pub no_right : RightRecord
no_right = record { kind = 0; user = 0; region = 0; zero = 0 }

unfoldable pub right_fits : Book → RightRecord → Bool
right_fits b r =
    leb r.kind 2 && (leb r.user (cond (eqb r.kind 0) 0 7) && (ltb r.region (length b.regions) && eqb r.zero 0))

unfoldable pub bad_right : Book → ℕ → Bool
bad_right b i = not (right_fits b (get_or b.rights i no_right))

-- 8: a kind that there is, each field as its kind says, and the two bytes called 0 are 0
abbrev pub no_node : NodeRecord
no_node = record { kind = 0; p = 0; a = 0; b = 0; c = 0; d = 0; k = pos 0; zeros = 0 }

abbrev pub node_at : Book → ℕ → NodeRecord
node_at b i = get_or b.nodes i no_node

-- whether node i is of this sort
abbrev pub sorted : Book → ℕ → ℕ → Bool
sorted b sort i = eqb (sort_of (node_at b i).kind) sort

-- whether a field of node n, in this role, may hold v: a child has a lower number and is of the right sort
unfoldable pub field_fits : Book → ℕ → ℕ → ℕ → Bool
field_fits b n role v =
    cond (between expression command role) (ltb v n && sorted b role v)
    (cond (eqb role variable) (ltb v 16)
    (cond (between table user role) (ltb v 8)
    (cond (eqb role region) (ltb v (length b.regions))
    (cond (eqb role right) (between 1 2 v)
    (eqb v 0)))))

unfoldable pub is_zero : ℤ → Bool
is_zero (pos n) = eqb n 0
is_zero (negsuc n) = false

unfoldable pub node_fits : Book → ℕ → Bool
node_fits b n =
    let x : NodeRecord = node_at b n in
    let u : Fields = fields_of x.kind in
    not (eqb (sort_of x.kind) no_kind) && (field_fits b n u.p x.p && (field_fits b n u.a x.a && (field_fits b n u.b x.b
    && (field_fits b n u.c x.c && (field_fits b n u.d x.d && ((eqb u.k constant || is_zero x.k) && eqb x.zeros 0))))))

abbrev pub bad_node : Book → ℕ → Bool
bad_node b n = not (node_fits b n)

-- 9: a user, a root that is a command, and the byte called 0 is 0
abbrev pub no_program : ProgramRecord
no_program = record { user = 0; zero = 0; root = 0 }

unfoldable pub is_command : Book → ℕ → Bool
is_command b i = ltb i (length b.nodes) && sorted b command i

unfoldable pub program_fits : Book → ProgramRecord → Bool
program_fits b p = leb p.user 7 && (eqb p.zero 0 && is_command b p.root)

unfoldable pub bad_program : Book → ℕ → Bool
bad_program b i = not (program_fits b (get_or b.programs i no_program))

-- 10: a region that exists, event 1 or 2, a user, a body that is a command and reaches no kind 20 or 23 to 25, and the three bytes
-- called 0 are 0
abbrev pub no_trigger : TriggerRecord
no_trigger = record { region = 0; event = 0; user = 0; zero = 0; body = 0; zeros = 0 }

unfoldable pub forbidden : ℕ → Bool
forbidden kind = eqb kind 20 || between 23 25 kind

-- whether a field in this role names a child that f picks
abbrev pub child : (ℕ → Bool) → ℕ → ℕ → Bool
child f role v = between expression command role && f v

-- whether node i reaches a forbidden kind in fewer than `depth` steps down
unfoldable pub reaches : Book → ℕ → ℕ → Bool
reaches b zero i = false
reaches b (suc depth) i =
    let x : NodeRecord = node_at b i in
    let u : Fields = fields_of x.kind in
    let below : ℕ → Bool = reaches b depth in
    forbidden x.kind || (child below u.a x.a || (child below u.b x.b || (child below u.c x.c || child below u.d x.d)))

-- children have lower numbers, so that there are fewer steps than nodes
unfoldable pub trigger_fits : Book → TriggerRecord → Bool
trigger_fits b t =
    ltb t.region (length b.regions) && (between 1 2 t.event && (leb t.user 7 && (eqb t.zero 0
    && (is_command b t.body && (eqb t.zeros 0 && not (reaches b (length b.nodes) t.body))))))

unfoldable pub bad_trigger : Book → ℕ → Bool
bad_trigger b i = not (trigger_fits b (get_or b.triggers i no_trigger))

-- 32: a place that there is, above that of the record before, and a label that is not the own place alone
abbrev pub no_label : LabelRecord
no_label = record { place = 0; w0 = 0; w1 = 0; w2 = 0; w3 = 0; w4 = 0; w5 = 0; w6 = 0; w7 = 0 }

abbrev pub labelled : LabelRecord → ℕ
labelled r = r.place

unfoldable pub label_fits : LabelRecord → Bool
label_fits r = ltb r.place 512 && not (is_own r.place (label_of r))

unfoldable pub bad_label : List LabelRecord → ℕ → Bool
bad_label labels i = not (label_fits (get_or labels i no_label) && rises labelled no_label labels i)

-- refusals 5 to 10 and 32, of the decoded records
unfoldable pub book_verdict : Book → Verdict
book_verdict b =
    and_then (blame reasons.Cell (bad_cell b.cells) (length b.cells))
    (and_then (blame reasons.Region (bad_region b.regions) (length b.regions))
    (and_then (blame reasons.Right (bad_right b) (length b.rights))
    (and_then (blame reasons.Node (bad_node b) (length b.nodes))
    (and_then (blame reasons.Program (bad_program b) (length b.programs))
    (and_then (blame reasons.Trigger (bad_trigger b) (length b.triggers))
    (blame reasons.Label (bad_label b.labels) (length b.labels)))))))

-- refusals 2 to 10 and 32 of a file
unfoldable pub verdict : List ℕ → Verdict
verdict s =
    and_then (need reasons.Length (length_fits s))
    (and_then (need reasons.Mark (mark_fits s))
    (and_then (need reasons.Sections (sections_fit s))
    (book_verdict (decode s))))
