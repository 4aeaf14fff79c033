-- Books written record by record, book W of the paper, and tables of worked examples: inputs, and what a definition gives for each.
use Rattle.std.specs.Prelude.{◌≡◌, List, [], ◌∷◌, ◌++◌, map, Bool, true, false, ℕ, ◌+◌, ◌-◌, ℤ, pos, get_or, set}
use Rattle.book.specs.Bytes.{byte}
use Rattle.book.specs.Records.{CellRecord, RegionRecord, RightRecord, NodeRecord, ProgramRecord, TriggerRecord, LabelRecord, Book}

-- ---- records, their zeros left out

abbrev pub cell : ℕ → ℕ → ℕ → ℤ → CellRecord
cell table owner line amount = record { table = table; owner = owner; line = line; zero = 0; amount = amount }

-- a whole table, and all lines of one owner
abbrev pub table_region : ℕ → RegionRecord
table_region table = record { table = table; owner_first = 0; owner_last = 7; line_first = 0; line_last = 7; zeros = 0 }

abbrev pub owner_region : ℕ → ℕ → RegionRecord
owner_region table owner = record { table = table; owner_first = owner; owner_last = owner; line_first = 0; line_last = 7; zeros = 0 }

abbrev pub public : ℕ → RightRecord
public region = record { kind = 0; user = 0; region = region; zero = 0 }

abbrev pub may_read : ℕ → ℕ → RightRecord
may_read user region = record { kind = 1; user = user; region = region; zero = 0 }

abbrev pub may_write : ℕ → ℕ → RightRecord
may_write user region = record { kind = 2; user = user; region = region; zero = 0 }

-- a node by its kind and the fields p, a, b, c, d
abbrev pub node : ℕ → ℕ → ℕ → ℕ → ℕ → ℕ → NodeRecord
node kind p a b c d = record { kind = kind; p = p; a = a; b = b; c = c; d = d; k = pos 0; zeros = 0 }

abbrev pub constant : ℤ → NodeRecord
constant k = record { kind = 1; p = 0; a = 0; b = 0; c = 0; d = 0; k = k; zeros = 0 }

abbrev pub variable : ℕ → NodeRecord
variable p = node 2 p 0 0 0 0

abbrev pub plus : ℕ → ℕ → NodeRecord
plus a b = node 3 0 a b 0 0

abbrev pub minus : ℕ → ℕ → NodeRecord
minus a b = node 4 0 a b 0 0

abbrev pub equals : ℕ → ℕ → NodeRecord
equals a b = node 5 0 a b 0 0

abbrev pub less : ℕ → ℕ → NodeRecord
less a b = node 6 0 a b 0 0

-- over a table, owners a to b, lines c to d
abbrev pub count : ℕ → ℕ → ℕ → ℕ → ℕ → NodeRecord
count table a b c d = node 8 table a b c d

abbrev pub sum : ℕ → ℕ → ℕ → ℕ → ℕ → NodeRecord
sum table a b c d = node 9 table a b c d

abbrev pub smallest : ℕ → ℕ → ℕ → ℕ → ℕ → NodeRecord
smallest table a b c d = node 10 table a b c d

abbrev pub largest : ℕ → ℕ → ℕ → ℕ → ℕ → NodeRecord
largest table a b c d = node 11 table a b c d

abbrev pub skip : NodeRecord
skip = node 16 0 0 0 0 0

abbrev pub assign : ℕ → ℕ → NodeRecord
assign variable a = node 17 variable a 0 0 0

abbrev pub both : ℕ → ℕ → NodeRecord
both a b = node 18 0 a b 0 0

abbrev pub if : ℕ → ℕ → ℕ → NodeRecord
if a b c = node 19 0 a b c 0

abbrev pub while : ℕ → ℕ → NodeRecord
while a b = node 20 0 a b 0 0

abbrev pub put : ℕ → ℕ → ℕ → ℕ → NodeRecord
put table a b c = node 21 table a b c 0

abbrev pub clear : ℕ → ℕ → ℕ → NodeRecord
clear table a b = node 22 table a b 0 0

abbrev pub out : ℕ → ℕ → NodeRecord
out a user = node 23 user a 0 0 0

abbrev pub grant_read : ℕ → ℕ → NodeRecord
grant_read region user = node 24 user region 1 0 0

abbrev pub grant_write : ℕ → ℕ → NodeRecord
grant_write region user = node 24 user region 2 0 0

abbrev pub revoke_read : ℕ → ℕ → NodeRecord
revoke_read region user = node 25 user region 1 0 0

abbrev pub revoke_write : ℕ → ℕ → NodeRecord
revoke_write region user = node 25 user region 2 0 0

abbrev pub raise : ℕ → ℕ → NodeRecord
raise variable region = node 26 variable region 0 0 0

abbrev pub program : ℕ → ℕ → ProgramRecord
program user root = record { user = user; zero = 0; root = root }

abbrev pub trigger : ℕ → ℕ → ℕ → ℕ → TriggerRecord
trigger region event user body = record { region = region; event = event; user = user; zero = 0; body = body; zeros = 0 }

-- the label of a place, by its words; those that are left out are 0
abbrev pub remember : ℕ → List ℕ → LabelRecord
remember place words = record {
  place = place;
  w0 = get_or words 0 0;
  w1 = get_or words 1 0;
  w2 = get_or words 2 0;
  w3 = get_or words 3 0;
  w4 = get_or words 4 0;
  w5 = get_or words 5 0;
  w6 = get_or words 6 0;
  w7 = get_or words 7 0;
}

-- ---- book W

-- its sections
abbrev pub w_sections : List ℕ
w_sections =
    -- cells (0,1,0) = 250 and (0,2,0) = 900
    0 ∷ 1 ∷ 0 ∷ 0 ∷ 250 ∷ 0 ∷ 0 ∷ 0 ∷ 0 ∷ 2 ∷ 0 ∷ 0 ∷ 132 ∷ 3 ∷ 0 ∷ 0
    -- regions: table 0 owner 1, table 0 owner 2, all lines
    ∷ 0 ∷ 1 ∷ 1 ∷ 0 ∷ 7 ∷ 0 ∷ 0 ∷ 0 ∷ 0 ∷ 2 ∷ 2 ∷ 0 ∷ 7 ∷ 0 ∷ 0 ∷ 0
    -- rights: read for users 1 and 2
    ∷ 1 ∷ 1 ∷ 0 ∷ 0 ∷ 1 ∷ 2 ∷ 1 ∷ 0
    -- nodes 0 to 3: constants 0, 1, 2, 7
    ∷ 1 ∷ 0 ∷ 0 ∷ 0 ∷ 0 ∷ 0 ∷ 0 ∷ 0 ∷ 0 ∷ 0 ∷ 0 ∷ 0 ∷ 0 ∷ 0 ∷ 0 ∷ 0
    ∷ 1 ∷ 0 ∷ 0 ∷ 0 ∷ 0 ∷ 0 ∷ 0 ∷ 0 ∷ 0 ∷ 0 ∷ 1 ∷ 0 ∷ 0 ∷ 0 ∷ 0 ∷ 0
    ∷ 1 ∷ 0 ∷ 0 ∷ 0 ∷ 0 ∷ 0 ∷ 0 ∷ 0 ∷ 0 ∷ 0 ∷ 2 ∷ 0 ∷ 0 ∷ 0 ∷ 0 ∷ 0
    ∷ 1 ∷ 0 ∷ 0 ∷ 0 ∷ 0 ∷ 0 ∷ 0 ∷ 0 ∷ 0 ∷ 0 ∷ 7 ∷ 0 ∷ 0 ∷ 0 ∷ 0 ∷ 0
    -- 4 sums owners 1 to 1, 5 sums owners 1 to 2
    ∷ 9 ∷ 0 ∷ 1 ∷ 0 ∷ 1 ∷ 0 ∷ 0 ∷ 0 ∷ 3 ∷ 0 ∷ 0 ∷ 0 ∷ 0 ∷ 0 ∷ 0 ∷ 0
    ∷ 9 ∷ 0 ∷ 1 ∷ 0 ∷ 2 ∷ 0 ∷ 0 ∷ 0 ∷ 3 ∷ 0 ∷ 0 ∷ 0 ∷ 0 ∷ 0 ∷ 0 ∷ 0
    -- 6 and 7 out those to user 1, 8 is 6 then 7
    ∷ 23 ∷ 1 ∷ 4 ∷ 0 ∷ 0 ∷ 0 ∷ 0 ∷ 0 ∷ 0 ∷ 0 ∷ 0 ∷ 0 ∷ 0 ∷ 0 ∷ 0 ∷ 0
    ∷ 23 ∷ 1 ∷ 5 ∷ 0 ∷ 0 ∷ 0 ∷ 0 ∷ 0 ∷ 0 ∷ 0 ∷ 0 ∷ 0 ∷ 0 ∷ 0 ∷ 0 ∷ 0
    ∷ 18 ∷ 0 ∷ 6 ∷ 0 ∷ 7 ∷ 0 ∷ 0 ∷ 0 ∷ 0 ∷ 0 ∷ 0 ∷ 0 ∷ 0 ∷ 0 ∷ 0 ∷ 0
    -- program: user 0, root 8
    ∷ 0 ∷ 0 ∷ 8 ∷ 0 ∷ []

unfoldable pub w_file : List ℕ
w_file =
    w_sections
    -- "BKWS", version 1; distances 224, 208, 192, 184, 40, 36 with counts 2, 2, 2, 9, 1, 0; 224 bytes
    ++ 66 ∷ 75 ∷ 87 ∷ 83 ∷ 1 ∷ 0 ∷ 0 ∷ 0
    ∷ 224 ∷ 0 ∷ 2 ∷ 0 ∷ 208 ∷ 0 ∷ 2 ∷ 0 ∷ 192 ∷ 0 ∷ 2 ∷ 0 ∷ 184 ∷ 0 ∷ 9 ∷ 0 ∷ 40 ∷ 0 ∷ 1 ∷ 0 ∷ 36 ∷ 0 ∷ 0 ∷ 0
    ∷ 224 ∷ 0 ∷ 0 ∷ 0 ∷ []

-- as version 2: the seventh pair, no label records 40 bytes before the end; all other distances are 4 more
unfoldable pub w_file_2 : List ℕ
w_file_2 =
    w_sections
    ++ 40 ∷ 0 ∷ 0 ∷ 0
    ∷ 66 ∷ 75 ∷ 87 ∷ 83 ∷ 2 ∷ 0 ∷ 0 ∷ 0
    ∷ 228 ∷ 0 ∷ 2 ∷ 0 ∷ 212 ∷ 0 ∷ 2 ∷ 0 ∷ 196 ∷ 0 ∷ 2 ∷ 0 ∷ 188 ∷ 0 ∷ 9 ∷ 0 ∷ 44 ∷ 0 ∷ 1 ∷ 0 ∷ 40 ∷ 0 ∷ 0 ∷ 0
    ∷ 228 ∷ 0 ∷ 0 ∷ 0 ∷ []

-- the same book record by record, for the books that change a part of it
abbrev pub w_cells : List CellRecord
w_cells = cell 0 1 0 (pos 250) ∷ cell 0 2 0 (pos 900) ∷ []

abbrev pub w_regions : List RegionRecord
w_regions = owner_region 0 1 ∷ owner_region 0 2 ∷ []

abbrev pub w_rights : List RightRecord
w_rights = may_read 1 0 ∷ may_read 2 1 ∷ []

abbrev pub constants : List NodeRecord
constants = constant (pos 0) ∷ constant (pos 1) ∷ constant (pos 2) ∷ constant (pos 7) ∷ []

abbrev pub w_nodes : List NodeRecord
w_nodes = sum 0 1 1 0 3 ∷ sum 0 1 2 0 3 ∷ out 4 1 ∷ out 5 1 ∷ both 6 7 ∷ []

abbrev pub w_book : Book
w_book =
    record { cells = w_cells; regions = w_regions; rights = w_rights; nodes = constants ++ w_nodes; programs = program 0 8 ∷ []; triggers = []; labels = [] }

-- ---- files with one byte changed

abbrev pub with_byte : ℕ → ℕ → List ℕ → List ℕ
with_byte at value s = set s at value

abbrev pub one_more : List ℕ → ℕ → List ℕ
one_more s at = with_byte at (byte s at + 1) s

abbrev pub one_less : List ℕ → ℕ → List ℕ
one_less s at = with_byte at (byte s at - 1) s

-- ---- rows

-- an input, and what it is to give
pub record Case (A B : Type 0) : Type 0 where
  pub given : A
  pub gives : B

infix 68 ◌⇒◌
abbrev pub ◌⇒◌ : {A B : Type 0} → A → B → Case A B
given ⇒ gives = record { given = given; gives = gives }

-- f gives what each row says
abbrev pub Gives : {A B : Type 0} → (A → B) → List (Case A B) → Type 0
Gives {A} {B} f cases = map (λ (c : Case A B). f c.given) cases ≡ map (λ (c : Case A B). c.gives) cases

-- a test passes the inputs of the first list, and fails those of the second
pub record Tells {A : Type 0} (test : A → Bool) (passing failing : List A) : Type 0 where
  pub passes : map test passing ≡ map (λ (x : A). true) passing
  pub fails : map test failing ≡ map (λ (x : A). false) failing
