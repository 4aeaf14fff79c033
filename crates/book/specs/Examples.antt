-- Worked examples of this crate's definitions, worked out by hand from the paper: for each clause, and each part of it, a row that
-- would not hold if it said something else. docs/CLAIMS.md tells which.
use Rattle.std.specs.Prelude.{◌≡◌, List, [], ◌∷◌, ◌++◌, map, Bool, false, ℕ, ◌+◌, ◌*◌, ◌<◌, eqb, leb, ℤ, pos, negsuc, length, drop, replicate, Ok, Err}
use Rattle.places.specs.Sets.{single}
use Rattle.labels.specs.Labels.{label_at}
use Rattle.book.specs.Bytes.{le32}
use Rattle.book.specs.Records.{CellRecord, RegionRecord, RightRecord, NodeRecord, ProgramRecord, TriggerRecord, LabelRecord, Book, SameScripts, place_of}
use Rattle.book.specs.Layout.{Bound, bounds, in_order, decode}
use Rattle.book.specs.Kinds as kinds
use Rattle.book.specs.Kinds.{no_kind, expression, command, unused, table, user, region, right, row_of}
use Rattle.book.specs.Refusals.{first, length_fits, mark_fits, sections_fit, cell_fits, no_cell, rises, no_label, labelled, label_fits, region_fits, right_fits, field_fits, node_fits, program_fits, forbidden, reaches, trigger_fits, book_verdict, verdict, verdict_values, refusal_of}
use Rattle.book.specs.Start.{Lengths, tabulate, start_amounts, start_presence, remembered, start_labels, public_set, read_sets, write_sets}
use Rattle.book.specs.Encode.{tail_bytes, encode, labels_from, with_cells}
use Rattle.book.specs.Tables.{cell, table_region, owner_region, public, may_read, may_write, node, constant, variable, plus, count, skip, assign, both, if, while, put, clear, out, grant_read, grant_write, revoke_read, raise, program, trigger, remember, w_file, w_file_2, w_book, with_byte, one_more, one_less, ◌⇒◌, Gives, Tells}
use Rattle.book.specs.declared.Row.{Row}
use Rattle.book.specs.declared.Reason.TheVariants as reasons

-- ---- files

-- its files are the shortest: 36 bytes as version 1, 40 as version 2
abbrev pub no_records : Book
no_records = record { cells = []; regions = []; rights = []; nodes = []; programs = []; triggers = []; labels = [] }

abbrev pub shortest : List ℕ
shortest =
    66 ∷ 75 ∷ 87 ∷ 83 ∷ 1 ∷ 0 ∷ 0 ∷ 0
    ∷ 36 ∷ 0 ∷ 0 ∷ 0 ∷ 36 ∷ 0 ∷ 0 ∷ 0 ∷ 36 ∷ 0 ∷ 0 ∷ 0 ∷ 36 ∷ 0 ∷ 0 ∷ 0 ∷ 36 ∷ 0 ∷ 0 ∷ 0 ∷ 36 ∷ 0 ∷ 0 ∷ 0
    ∷ 36 ∷ 0 ∷ 0 ∷ 0 ∷ []

-- n bytes, the pair, and version 2: from each section's start to the file's end there are 40 + n bytes
abbrev pub behind : ℕ → List ℕ
behind n =
    let all : ℕ = 40 + n in
    replicate n 0 ++ (all ∷ 0 ∷ 0 ∷ 0
    ∷ 66 ∷ 75 ∷ 87 ∷ 83 ∷ 2 ∷ 0 ∷ 0 ∷ 0
    ∷ all ∷ 0 ∷ 0 ∷ 0 ∷ all ∷ 0 ∷ 0 ∷ 0 ∷ all ∷ 0 ∷ 0 ∷ 0 ∷ all ∷ 0 ∷ 0 ∷ 0 ∷ all ∷ 0 ∷ 0 ∷ 0 ∷ all ∷ 0 ∷ 0 ∷ 0
    ∷ all ∷ 0 ∷ 0 ∷ 0 ∷ [])

-- no records, and a byte between them and the trailer: from each section's start to the file's end there are 37 bytes
abbrev pub gap : List ℕ
gap =
    0 ∷ 66 ∷ 75 ∷ 87 ∷ 83 ∷ 1 ∷ 0 ∷ 0 ∷ 0
    ∷ 37 ∷ 0 ∷ 0 ∷ 0 ∷ 37 ∷ 0 ∷ 0 ∷ 0 ∷ 37 ∷ 0 ∷ 0 ∷ 0 ∷ 37 ∷ 0 ∷ 0 ∷ 0 ∷ 37 ∷ 0 ∷ 0 ∷ 0 ∷ 37 ∷ 0 ∷ 0 ∷ 0
    ∷ 37 ∷ 0 ∷ 0 ∷ 0 ∷ []

-- a record of each section, each byte of it another number: it shows where every field stands, and would be refused
unfoldable pub each_file : List ℕ
each_file =
    0x01 ∷ 0x02 ∷ 0x03 ∷ 0x04 ∷ 0xfe ∷ 0xff ∷ 0xff ∷ 0xff
    ∷ 0x11 ∷ 0x12 ∷ 0x13 ∷ 0x14 ∷ 0x15 ∷ 0x16 ∷ 0x17 ∷ 0x18
    ∷ 0x21 ∷ 0x22 ∷ 0x23 ∷ 0x24
    ∷ 0x31 ∷ 0x32 ∷ 0x33 ∷ 0x34 ∷ 0x35 ∷ 0x36 ∷ 0x37 ∷ 0x38 ∷ 0x39 ∷ 0x3a ∷ 0xfd ∷ 0xff ∷ 0xff ∷ 0xff ∷ 0x3b ∷ 0x3c
    ∷ 0x41 ∷ 0x42 ∷ 0x43 ∷ 0x44
    ∷ 0x51 ∷ 0x52 ∷ 0x53 ∷ 0x54 ∷ 0x55 ∷ 0x56 ∷ 0x57 ∷ 0x58
    -- 48 bytes and the trailer's 36
    ∷ 66 ∷ 75 ∷ 87 ∷ 83 ∷ 1 ∷ 0 ∷ 0 ∷ 0
    ∷ 84 ∷ 0 ∷ 1 ∷ 0 ∷ 76 ∷ 0 ∷ 1 ∷ 0 ∷ 68 ∷ 0 ∷ 1 ∷ 0 ∷ 64 ∷ 0 ∷ 1 ∷ 0 ∷ 48 ∷ 0 ∷ 1 ∷ 0 ∷ 44 ∷ 0 ∷ 1 ∷ 0
    ∷ 84 ∷ 0 ∷ 0 ∷ 0 ∷ []

-- the same as version 2, with a label record: its place and its words
unfoldable pub each_file_2 : List ℕ
each_file_2 =
    0x01 ∷ 0x02 ∷ 0x03 ∷ 0x04 ∷ 0xfe ∷ 0xff ∷ 0xff ∷ 0xff
    ∷ 0x11 ∷ 0x12 ∷ 0x13 ∷ 0x14 ∷ 0x15 ∷ 0x16 ∷ 0x17 ∷ 0x18
    ∷ 0x21 ∷ 0x22 ∷ 0x23 ∷ 0x24
    ∷ 0x31 ∷ 0x32 ∷ 0x33 ∷ 0x34 ∷ 0x35 ∷ 0x36 ∷ 0x37 ∷ 0x38 ∷ 0x39 ∷ 0x3a ∷ 0xfd ∷ 0xff ∷ 0xff ∷ 0xff ∷ 0x3b ∷ 0x3c
    ∷ 0x41 ∷ 0x42 ∷ 0x43 ∷ 0x44
    ∷ 0x51 ∷ 0x52 ∷ 0x53 ∷ 0x54 ∷ 0x55 ∷ 0x56 ∷ 0x57 ∷ 0x58
    ∷ 0x61 ∷ 0x62
    ∷ 0x71 ∷ 0x72 ∷ 0x73 ∷ 0x74 ∷ 0x75 ∷ 0x76 ∷ 0x77 ∷ 0x78 ∷ 0x81 ∷ 0x82 ∷ 0x83 ∷ 0x84 ∷ 0x85 ∷ 0x86 ∷ 0x87 ∷ 0x88
    ∷ 0x91 ∷ 0x92 ∷ 0x93 ∷ 0x94 ∷ 0x95 ∷ 0x96 ∷ 0x97 ∷ 0x98 ∷ 0xa1 ∷ 0xa2 ∷ 0xa3 ∷ 0xa4 ∷ 0xa5 ∷ 0xa6 ∷ 0xa7 ∷ 0xa8
    ∷ 0xb1 ∷ 0xb2 ∷ 0xb3 ∷ 0xb4 ∷ 0xb5 ∷ 0xb6 ∷ 0xb7 ∷ 0xb8 ∷ 0xc1 ∷ 0xc2 ∷ 0xc3 ∷ 0xc4 ∷ 0xc5 ∷ 0xc6 ∷ 0xc7 ∷ 0xc8
    ∷ 0xd1 ∷ 0xd2 ∷ 0xd3 ∷ 0xd4 ∷ 0xd5 ∷ 0xd6 ∷ 0xd7 ∷ 0xd8 ∷ 0xe1 ∷ 0xe2 ∷ 0xe3 ∷ 0xe4 ∷ 0xe5 ∷ 0xe6 ∷ 0xe7 ∷ 0xe8
    -- 114 bytes, the pair of the label records, 106 before the end, and the trailer's 36
    ∷ 106 ∷ 0 ∷ 1 ∷ 0
    ∷ 66 ∷ 75 ∷ 87 ∷ 83 ∷ 2 ∷ 0 ∷ 0 ∷ 0
    ∷ 154 ∷ 0 ∷ 1 ∷ 0 ∷ 146 ∷ 0 ∷ 1 ∷ 0 ∷ 138 ∷ 0 ∷ 1 ∷ 0 ∷ 134 ∷ 0 ∷ 1 ∷ 0 ∷ 118 ∷ 0 ∷ 1 ∷ 0 ∷ 114 ∷ 0 ∷ 1 ∷ 0
    ∷ 154 ∷ 0 ∷ 0 ∷ 0 ∷ []

abbrev pub each_label : LabelRecord
each_label = remember 0x6261
    (0x7877767574737271 ∷ 0x8887868584838281 ∷ 0x9897969594939291 ∷ 0xa8a7a6a5a4a3a2a1 ∷ 0xb8b7b6b5b4b3b2b1 ∷ 0xc8c7c6c5c4c3c2c1
    ∷ 0xd8d7d6d5d4d3d2d1 ∷ 0xe8e7e6e5e4e3e2e1 ∷ [])

-- its book, with these cells and labels
abbrev pub each_with : List CellRecord → List LabelRecord → Book
each_with cells labels =
    record {
      cells = cells;
      regions = record { table = 0x11; owner_first = 0x12; owner_last = 0x13; line_first = 0x14; line_last = 0x15; zeros = 0x181716 } ∷ [];
      rights = record { kind = 0x21; user = 0x22; region = 0x23; zero = 0x24 } ∷ [];
      nodes = record { kind = 0x31; p = 0x32; a = 0x3433; b = 0x3635; c = 0x3837; d = 0x3a39; k = negsuc 2; zeros = 0x3c3b } ∷ [];
      programs = record { user = 0x41; zero = 0x42; root = 0x4443 } ∷ [];
      triggers = record { region = 0x51; event = 0x52; user = 0x53; zero = 0x54; body = 0x5655; zeros = 0x5857 } ∷ [];
      labels = labels;
    }

abbrev pub each_book : List LabelRecord → Book
each_book = each_with (record { table = 0x01; owner = 0x02; line = 0x03; zero = 0x04; amount = negsuc 1 } ∷ [])

-- 5, 4, 3, 258, 2, 1 and 259 records, which is told by their number alone: 4,228 bytes of records, and 17,094 of label records
abbrev pub large_book : Book
large_book =
    record {
      cells = replicate 5 (cell 0 0 0 (pos 0));
      regions = replicate 4 (table_region 0);
      rights = replicate 3 (public 0);
      nodes = replicate 258 skip;
      programs = replicate 2 (program 0 0);
      triggers = replicate 1 (trigger 0 1 0 0);
      labels = replicate 259 (remember 0 []);
    }

-- what stands behind the records: as version 1, without those of labels, and as version 2
unfoldable pub large_trailer : List ℕ
large_trailer =
    66 ∷ 75 ∷ 87 ∷ 83 ∷ 1 ∷ 0 ∷ 0 ∷ 0
    -- distances 4264, 4224, 4192, 4180, 52, 44
    ∷ 0xa8 ∷ 0x10 ∷ 5 ∷ 0 ∷ 0x80 ∷ 0x10 ∷ 4 ∷ 0 ∷ 0x60 ∷ 0x10 ∷ 3 ∷ 0 ∷ 0x54 ∷ 0x10 ∷ 2 ∷ 1 ∷ 52 ∷ 0 ∷ 2 ∷ 0 ∷ 44 ∷ 0 ∷ 1 ∷ 0
    ∷ 0xa8 ∷ 0x10 ∷ 0 ∷ 0 ∷ []

unfoldable pub large_tail : List ℕ
large_tail =
    -- distance 17134
    0xee ∷ 0x42 ∷ 3 ∷ 1
    ∷ 66 ∷ 75 ∷ 87 ∷ 83 ∷ 2 ∷ 0 ∷ 0 ∷ 0
    -- distances 21362, 21322, 21290, 21278, 17150, 17142
    ∷ 0x72 ∷ 0x53 ∷ 5 ∷ 0 ∷ 0x4a ∷ 0x53 ∷ 4 ∷ 0 ∷ 0x2a ∷ 0x53 ∷ 3 ∷ 0 ∷ 0x1e ∷ 0x53 ∷ 2 ∷ 1 ∷ 0xfe ∷ 0x42 ∷ 2 ∷ 0 ∷ 0xf6 ∷ 0x42 ∷ 1 ∷ 0
    ∷ 0x72 ∷ 0x53 ∷ 0 ∷ 0 ∷ []

-- book W's file with the first cell's table wrong; and behind that, one after another, the number of cells, the mark, the length field
abbrev pub w_cell_bad : List ℕ
w_cell_bad = with_byte 0 8 w_file

abbrev pub w_count_bad : List ℕ
w_count_bad = with_byte 198 9 w_cell_bad

abbrev pub w_mark_bad : List ℕ
w_mark_bad = with_byte 188 9 w_count_bad

abbrev pub w_length_bad : List ℕ
w_length_bad = with_byte 220 9 w_mark_bad

-- the bounds of a section; and those of W's sections, if there may be just so many records as W has, but for the nodes
abbrev pub at_most : ℕ → ℕ → Bound
at_most most size = record { most = most; size = size }

abbrev pub most_of : ℕ → List Bound
most_of nodes = at_most 2 8 ∷ at_most 2 8 ∷ at_most 2 4 ∷ at_most nodes 16 ∷ at_most 1 4 ∷ at_most 0 8 ∷ []

-- those of the file with a record of each section
abbrev pub most_labels : ℕ → List Bound
most_labels labels = at_most 1 8 ∷ at_most 1 8 ∷ at_most 1 4 ∷ at_most 1 16 ∷ at_most 1 4 ∷ at_most 1 8 ∷ at_most labels 66 ∷ []

-- ---- records

-- good records in each section, and behind them these
abbrev pub followed : List CellRecord → List RegionRecord → List RightRecord → List NodeRecord → List ProgramRecord → List TriggerRecord → List LabelRecord → Book
followed cells regions rights nodes programs triggers labels =
    record {
      cells = cell 0 0 0 (pos 1) ∷ cell 0 0 1 (pos 1) ∷ cells;
      regions = table_region 0 ∷ regions;
      rights = public 0 ∷ rights;
      nodes = constant (pos 0) ∷ skip ∷ nodes;
      programs = program 0 1 ∷ programs;
      triggers = trigger 0 1 0 1 ∷ trigger 0 2 0 1 ∷ triggers;
      labels = remember 0 [] ∷ remember 1 (3 ∷ []) ∷ remember 511 [] ∷ labels;
    }

-- a bad record at the end of each section: a place that does not rise; a table, a user, a kind, a user and an event that there are not; and a place that does not rise
abbrev pub cell_last : List CellRecord
cell_last = cell 0 0 1 (pos 1) ∷ []

abbrev pub region_last : List RegionRecord
region_last = table_region 1 ∷ table_region 2 ∷ table_region 3 ∷ table_region 8 ∷ []

abbrev pub right_last : List RightRecord
right_last = may_read 7 0 ∷ may_write 7 0 ∷ may_read 8 0 ∷ []

abbrev pub node_last : List NodeRecord
node_last = node 7 0 0 0 0 0 ∷ []

abbrev pub program_last : List ProgramRecord
program_last = program 8 1 ∷ []

abbrev pub trigger_last : List TriggerRecord
trigger_last = trigger 0 3 0 1 ∷ []

abbrev pub label_last : List LabelRecord
label_last = remember 511 (1 ∷ []) ∷ []

-- records field by field, where a table needs their zeros or a number that has no name
abbrev pub box : ℕ → ℕ → ℕ → ℕ → ℕ → ℕ → RegionRecord
box table owner_first owner_last line_first line_last zeros =
    record { table = table; owner_first = owner_first; owner_last = owner_last; line_first = line_first; line_last = line_last; zeros = zeros }

abbrev pub holding : ℕ → ℕ → ℕ → ℕ → RightRecord
holding kind user region rest = record { kind = kind; user = user; region = region; zero = rest }

-- a skip with these
abbrev pub skip_with : ℤ → ℕ → NodeRecord
skip_with k zeros = record { kind = 16; p = 0; a = 0; b = 0; c = 0; d = 0; k = k; zeros = zeros }

-- cells 1 to 3 each stand above the one before, by line, owner, table; 4 in the same place, 5 below
abbrev pub rising : List CellRecord
rising = cell 0 0 6 (pos 0) ∷ cell 0 0 7 (pos 0) ∷ cell 0 1 0 (pos 0) ∷ cell 1 0 0 (pos 0) ∷ cell 1 0 0 (pos 1) ∷ cell 0 7 7 (pos 0) ∷ []

-- label records 1 and 2 each stand above the one before; 3 in the same place, 4 below
abbrev pub rising_labels : List LabelRecord
rising_labels = remember 5 [] ∷ remember 6 [] ∷ remember 511 [] ∷ remember 511 (1 ∷ []) ∷ remember 0 [] ∷ []

-- two regions, and these nodes
abbrev pub scripts : List NodeRecord → Book
scripts nodes = record { cells = []; regions = table_region 0 ∷ table_region 7 ∷ []; rights = []; nodes = nodes; programs = []; triggers = []; labels = [] }

-- expressions 0, 2 and 3, commands 1 and 4
abbrev pub five : List NodeRecord
five = constant (pos 0) ∷ skip ∷ constant (pos 1) ∷ constant (pos 2) ∷ skip ∷ []

-- whether a sixth node fits
abbrev pub sixth_fits : NodeRecord → Bool
sixth_fits x = node_fits (scripts (five ++ x ∷ [])) 5

-- 2 is of a forbidden kind; it is child a, b, c, d of 3 to 6, and the only child of 7; 8 names region 2; 9 reaches skips; 10 reaches 2
-- by way of 4
abbrev pub telling : List NodeRecord
telling =
    constant (pos 0) ∷ skip ∷ out 0 0
    ∷ both 2 1 ∷ both 1 2 ∷ if 0 1 2 ∷ count 0 0 0 0 2 ∷ assign 0 2
    ∷ raise 0 2 ∷ both 1 1 ∷ if 0 9 4 ∷ []

-- 0 is of a forbidden kind; 4 does not reach it, though the fields that 1, 3 and 4 do not name are 0; 5 does
abbrev pub granting : List NodeRecord
granting = grant_read 0 0 ∷ skip ∷ constant (pos 0) ∷ both 1 1 ∷ if 2 1 3 ∷ both 1 0 ∷ []

-- each node but the first has the one before for its child, and the first is of a forbidden kind
abbrev pub chain : List NodeRecord
chain = grant_read 0 0 ∷ both 0 0 ∷ both 1 1 ∷ []

-- ---- kinds

abbrev pub row : ℕ → ℕ → ℕ → ℕ → ℕ → ℕ → ℕ → ℕ → Row
row cost sort p a b c d k = record { cost = cost; sort = sort; p = p; a = a; b = b; c = c; d = d; k = k }

-- a kind that there is not, and rows that several kinds have: 3 to 6, 8 to 11, 24 and 25
abbrev pub no_row : Row
no_row = row 1 no_kind unused unused unused unused unused unused

abbrev pub joins : Row
joins = row 1 expression unused expression expression unused unused unused

abbrev pub queries : Row
queries = row 4 expression table expression expression expression expression unused

abbrev pub changes : Row
changes = row 1 command user region right unused unused unused

-- cost, sort, and the roles of p, a, b, c, d, k
abbrev pub paper_rows : List Row
paper_rows =
    no_row
    -- 1 constant, 2 variable
    ∷ row 1 expression unused unused unused unused unused kinds.constant
    ∷ row 1 expression kinds.variable unused unused unused unused unused
    -- 3 to 6, 8 to 11
    ∷ joins ∷ joins ∷ joins ∷ joins ∷ no_row
    ∷ queries ∷ queries ∷ queries ∷ queries ∷ no_row ∷ no_row ∷ no_row ∷ no_row
    -- 16 skip, 17 assignment, 18 then, 19 if, 20 while
    ∷ row 1 command unused unused unused unused unused unused
    ∷ row 1 command kinds.variable expression unused unused unused unused
    ∷ row 1 command unused command command unused unused unused
    ∷ row 1 command unused expression command command unused unused
    ∷ row 1 command unused expression command unused unused unused
    -- 21 put, 22 clear, 23 out
    ∷ row 1 command table expression expression expression unused unused
    ∷ row 1 command table expression expression unused unused unused
    ∷ row 1 command user expression unused unused unused unused
    -- 24 grant, 25 revoke, 26 raise
    ∷ changes ∷ changes
    ∷ row 1 command kinds.variable region unused unused unused unused
    ∷ no_row ∷ []

-- ---- the start

-- (0,0,0) holds 0, (1,2,3) -5 and (7,7,7) 9
-- regions: table 0, owners 1 to 2, lines 3 to 4; table 7, owner 7; table 3, owner 0, line 0
-- region 0 is public; user 7 may read 1 and 2, user 2 may read 2, user 0 may write 1
abbrev pub start_book : Book
start_book =
    record {
      cells = cell 0 0 0 (pos 0) ∷ cell 1 2 3 (negsuc 4) ∷ cell 7 7 7 (pos 9) ∷ [];
      regions = box 0 1 2 3 4 0 ∷ owner_region 7 7 ∷ box 3 0 0 0 0 0 ∷ [];
      rights = public 0 ∷ may_read 7 1 ∷ may_read 7 2 ∷ may_read 2 2 ∷ may_write 0 1 ∷ [];
      nodes = [];
      programs = [];
      triggers = [];
      labels = [];
    }

-- the label of place 83 is places 0 and 511, that of place 1 empty; a record that comes too late says otherwise of place 83
abbrev pub remembering : List LabelRecord
remembering = remember 1 [] ∷ remember 83 (1 ∷ 0 ∷ 0 ∷ 0 ∷ 0 ∷ 0 ∷ 0 ∷ 0x8000000000000000 ∷ []) ∷ remember 83 [] ∷ []

-- no places, and those of the three regions: bits 11, 12, 19 and 20 of word 0; bits 56 to 63 of word 7; bit 0 of word 3
abbrev pub nowhere : List ℕ
nowhere = replicate 8 0

abbrev pub places_0 : List ℕ
places_0 = 0x181800 ∷ replicate 7 0

abbrev pub places_1 : List ℕ
places_1 = replicate 7 0 ++ 0xff00000000000000 ∷ []

abbrev pub places_2 : List ℕ
places_2 = 0 ∷ 0 ∷ 0 ∷ 1 ∷ replicate 4 0

-- amounts and presence of three cells, and the amount 5 at place 1, which is absent
abbrev pub three_amounts : List ℤ
three_amounts = negsuc 0 ∷ pos 5 ∷ replicate 509 (pos 0) ++ pos 7 ∷ []

-- places 0, 83 and 511
abbrev pub three_present : List ℕ
three_present = 1 ∷ 0x80000 ∷ 0 ∷ 0 ∷ 0 ∷ 0 ∷ 0 ∷ 0x8000000000000000 ∷ []

-- the labels of places 0 to 3: place 0 alone; place 0 in place of 1; none; places 3 and 64
abbrev pub four_labels : List ℕ
four_labels =
    1 ∷ replicate 7 0 ++ 1 ∷ replicate 7 0 ++ replicate 8 0 ++ 8 ∷ 1 ∷ replicate 6 0

-- ---- the tables

-- refusals 2 to 4, and the order of all
pub record FileExamples : Type 0 where
  -- at least 36 bytes; the length field is that of bytes 32 to 35 of the trailer
  pub lengths : Tells length_fits
      (shortest ∷ [])
      ((replicate 32 0 ++ 35 ∷ 0 ∷ 0 ∷ []) ∷ one_less shortest 32 ∷ map (one_more shortest) (32 ∷ 33 ∷ 34 ∷ 35 ∷ []))
  -- 60,000 bytes are not too many, whatever the bytes are: the length field alone decides; 60,001 are
  pub longest : (s : List ℕ) → length s ≡ 60000 → length_fits s ≡ eqb (le32 s 59996) 60000
  pub too_long : (s : List ℕ) → length s ≡ 60001 → length_fits s ≡ false
  -- "BKWS", version 1 or 2 and three zeros are bytes 188 to 195 of W's file, and none of them may be another
  pub marks : Tells mark_fits
      (w_file ∷ one_more w_file 192 ∷ w_file_2 ∷ [])
      (map (one_more w_file) (188 ∷ 189 ∷ 190 ∷ 191 ∷ 193 ∷ 194 ∷ 195 ∷ []) ++ map (one_less w_file) (tabulate (λ i. 188 + i) 5) ++ one_more w_file_2 196 ∷ [])
  -- the six pairs are bytes 196 to 219, and none of them may be another; nor may there be a gap before the trailer
  pub sections : Tells sections_fit
      (w_file ∷ (replicate 4228 0 ++ large_trailer) ∷ [])
      (gap ∷ map (one_more w_file) (tabulate (λ i. 196 + i) 24) ++ map (one_less w_file) (tabulate (λ i. 196 + 4 * i) 6))
  -- version 2: bytes 188 to 191 are the seventh pair, 200 to 223 the six others; nor may there be a gap before the seventh
  pub seven_sections : Tells sections_fit
      (w_file_2 ∷ each_file_2 ∷ behind 0 ∷ (replicate 21322 0 ++ large_tail) ∷ [])
      (behind 1 ∷ map (one_more w_file_2) (tabulate (λ i. 188 + i) 4 ++ tabulate (λ i. 200 + i) 24)
      ++ map (one_less w_file_2) (tabulate (λ i. 188 + 4 * i) 1 ++ tabulate (λ i. 200 + 4 * i) 6) ++ one_less each_file_2 116 ∷ [])
  -- neither version reads as the other; version 2 has at least 40 bytes
  pub versions : Tells sections_fit [] (one_more w_file 192 ∷ one_less w_file_2 196 ∷ one_more shortest 4 ∷ map (λ n. drop n (behind 0)) (1 ∷ 2 ∷ 3 ∷ 4 ∷ []))
  -- W's 9 nodes are not too many where 9 is the most, and they are where 8 is; and so with a label record
  pub counts : Tells (in_order w_file 0 0) (most_of 9 ∷ []) (most_of 8 ∷ [])
  pub label_counts : Tells (in_order each_file_2 0 0) (most_labels 1 ∷ []) (most_labels 0 ∷ [])
  -- the paper's table: the most records of a section, and the bytes of each
  pub most : bounds w_file_2 ≡ bounds w_file ++ at_most 512 66 ∷ []
  pub most_six : bounds w_file ≡ at_most 512 8 ∷ at_most 64 8 ∷ at_most 64 4 ∷ at_most 1024 16 ∷ at_most 8 4 ∷ at_most 8 8 ∷ []
  -- of several faults the lowest number
  pub verdicts : Gives verdict
      (w_file ⇒ Ok tt
      ∷ w_file_2 ⇒ Ok tt
      ∷ w_cell_bad ⇒ Err (refusal_of reasons.Cell 0)
      ∷ w_count_bad ⇒ Err (refusal_of reasons.Sections 0)
      ∷ w_mark_bad ⇒ Err (refusal_of reasons.Mark 0)
      ∷ w_length_bad ⇒ Err (refusal_of reasons.Length 0)
      ∷ [])
  -- in the paper's numbers
  pub numbers : Gives (λ s. (verdict_values (verdict s)).number) (w_file ⇒ 0 ∷ w_cell_bad ⇒ 5 ∷ w_count_bad ⇒ 4 ∷ w_mark_bad ⇒ 3 ∷ w_length_bad ⇒ 2 ∷ [])

-- refusals 5 to 10 and 32
pub record RecordExamples : Type 0 where
  -- of three records the first bad one; 3 if there is none
  pub firsts : Gives (λ (bad : ℕ → Bool). first bad 3) (eqb 0 ⇒ 0 ∷ leb 1 ⇒ 1 ∷ eqb 2 ⇒ 2 ∷ eqb 3 ⇒ 3 ∷ [])
  pub first_of_none : first (eqb 0) 0 ≡ 0
  -- of several faults the lowest number, though the bad record is the last of its section; and no fault
  pub verdicts : Gives book_verdict
      (followed cell_last region_last right_last node_last program_last trigger_last label_last ⇒ Err (refusal_of reasons.Cell 2)
      ∷ followed [] region_last right_last node_last program_last trigger_last label_last ⇒ Err (refusal_of reasons.Region 4)
      ∷ followed [] [] right_last node_last program_last trigger_last label_last ⇒ Err (refusal_of reasons.Right 3)
      ∷ followed [] [] [] node_last program_last trigger_last label_last ⇒ Err (refusal_of reasons.Node 2)
      ∷ followed [] [] [] [] program_last trigger_last label_last ⇒ Err (refusal_of reasons.Program 1)
      ∷ followed [] [] [] [] [] trigger_last label_last ⇒ Err (refusal_of reasons.Trigger 2)
      ∷ followed [] [] [] [] [] [] label_last ⇒ Err (refusal_of reasons.Label 3)
      ∷ followed [] [] [] [] [] [] (remember 512 [] ∷ []) ⇒ Err (refusal_of reasons.Label 3)
      ∷ followed cell_last [] [] [] [] [] [] ⇒ Err (refusal_of reasons.Cell 2)
      ∷ followed [] [] [] [] [] [] [] ⇒ Ok tt
      ∷ [])
  -- in the paper's numbers
  pub numbers : Gives (λ b. (verdict_values (book_verdict b)).number)
      (followed cell_last region_last right_last node_last program_last trigger_last label_last ⇒ 5
      ∷ followed [] region_last right_last node_last program_last trigger_last label_last ⇒ 6
      ∷ followed [] [] right_last node_last program_last trigger_last label_last ⇒ 7
      ∷ followed [] [] [] node_last program_last trigger_last label_last ⇒ 8
      ∷ followed [] [] [] [] program_last trigger_last label_last ⇒ 9
      ∷ followed [] [] [] [] [] trigger_last label_last ⇒ 10
      ∷ followed [] [] [] [] [] [] label_last ⇒ 32
      ∷ followed [] [] [] [] [] [] [] ⇒ 0
      ∷ [])
  -- 5: table, owner, line up to 7, and a byte 0
  pub cells : Tells cell_fits
      (cell 0 0 0 (pos 0) ∷ cell 7 7 7 (pos 0) ∷ [])
      (cell 8 0 0 (pos 0) ∷ cell 0 8 0 (pos 0) ∷ cell 0 0 8 (pos 0) ∷ record { table = 0; owner = 0; line = 0; zero = 1; amount = pos 0 } ∷ [])
  -- the first cell may stand anywhere, each other above the one before
  pub order : Tells (rises place_of no_cell rising) (0 ∷ 1 ∷ 2 ∷ 3 ∷ []) (4 ∷ 5 ∷ [])
  -- 6: a table up to 7, first ≤ last ≤ 7 for owners and for lines, and bytes 0
  pub regions : Tells region_fits
      (box 7 0 7 0 7 0 ∷ box 0 7 7 0 0 0 ∷ box 0 0 0 7 7 0 ∷ [])
      (box 8 0 0 0 0 0 ∷ box 0 1 0 0 7 0 ∷ box 0 0 8 0 0 0 ∷ box 0 0 7 1 0 0 ∷ box 0 0 0 0 8 0 ∷ box 0 0 0 0 0 1 ∷ [])
  -- 7: kinds 0 to 2, users up to 7 and for public 0 alone, two regions, and a byte 0
  pub rights : Tells (right_fits (scripts []))
      (public 1 ∷ may_read 0 1 ∷ may_read 7 1 ∷ may_write 7 0 ∷ [])
      (holding 3 0 0 0 ∷ holding 0 1 0 0 ∷ may_read 8 0 ∷ may_write 8 0 ∷ may_read 0 2 ∷ holding 0 0 0 1 ∷ [])
  -- 8: a child of node 3 has a lower number and is of its sort
  pub expressions : Tells (field_fits (scripts five) 3 expression) (0 ∷ 2 ∷ []) (1 ∷ 3 ∷ [])
  pub commands : Tells (field_fits (scripts five) 3 command) (1 ∷ []) (0 ∷ 4 ∷ [])
  pub variables : Tells (field_fits (scripts five) 3 kinds.variable) (15 ∷ []) (16 ∷ [])
  pub tables : Tells (field_fits (scripts five) 3 table) (7 ∷ []) (8 ∷ [])
  pub users : Tells (field_fits (scripts five) 3 user) (7 ∷ []) (8 ∷ [])
  pub named_regions : Tells (field_fits (scripts five) 3 region) (1 ∷ []) (2 ∷ [])
  pub read_or_write : Tells (field_fits (scripts five) 3 right) (1 ∷ 2 ∷ []) (0 ∷ 3 ∷ [])
  pub unnamed : Tells (field_fits (scripts five) 3 unused) (0 ∷ []) (1 ∷ [])
  -- nodes of all kinds; then a kind that there is not, p, a, b, c and d out of their roles, k where none is named, and bytes 0
  pub nodes : Tells sixth_fits
      (constant (negsuc 0) ∷ variable 15 ∷ plus 0 2 ∷ count 7 0 2 3 2
      ∷ skip ∷ assign 15 2 ∷ both 1 4 ∷ if 0 1 4 ∷ while 0 1 ∷ put 7 0 2 3 ∷ clear 7 0 2
      ∷ out 0 7 ∷ grant_write 1 7 ∷ revoke_read 1 7 ∷ raise 15 1 ∷ [])
      (node 7 0 0 0 0 0 ∷ variable 16 ∷ plus 1 0 ∷ plus 0 1 ∷ put 0 0 0 1 ∷ count 0 0 0 0 1
      ∷ skip_with (pos 1) 0 ∷ skip_with (negsuc 0) 0 ∷ skip_with (pos 0) 1 ∷ [])
  -- 9: users up to 7, a byte 0, and a root that is there and is a command
  pub programs : Tells (program_fits (scripts five))
      (program 0 1 ∷ program 7 4 ∷ [])
      (program 8 1 ∷ record { user = 0; zero = 1; root = 1 } ∷ program 0 0 ∷ program 0 5 ∷ [])
  -- 10: kinds 20 and 23 to 25 and not their neighbours
  pub forbidding : Tells forbidden (20 ∷ 23 ∷ 24 ∷ 25 ∷ []) (19 ∷ 21 ∷ 22 ∷ 26 ∷ [])
  -- 3 reaches 2 in one step
  pub steps : Tells (λ depth. reaches (scripts telling) depth 3) (2 ∷ []) (0 ∷ 1 ∷ [])
  -- each child is followed, here for two steps, and no other field is
  pub reaching : Tells (reaches (scripts telling) 3) (2 ∷ 3 ∷ 4 ∷ 5 ∷ 6 ∷ 7 ∷ 10 ∷ []) (0 ∷ 1 ∷ 8 ∷ 9 ∷ [])
  -- two regions, events 1 and 2, users up to 7, a body that is there and is a command, and bytes 0
  pub triggers : Tells (trigger_fits (scripts five))
      (trigger 1 1 7 4 ∷ trigger 0 2 0 1 ∷ [])
      (trigger 2 1 0 1 ∷ trigger 0 0 0 1 ∷ trigger 0 3 0 1 ∷ trigger 0 1 8 1 ∷ trigger 0 1 0 0 ∷ trigger 0 1 0 5
      ∷ record { region = 0; event = 1; user = 0; zero = 1; body = 1; zeros = 0 }
      ∷ record { region = 0; event = 1; user = 0; zero = 0; body = 1; zeros = 1 }
      ∷ [])
  -- a body that reaches no forbidden kind, and one that does
  pub bodies : Tells (trigger_fits (scripts granting)) (trigger 0 1 0 4 ∷ []) (trigger 1 1 0 5 ∷ [])
  -- and one that does by way of every node
  pub farthest : Tells (trigger_fits (scripts chain)) [] (trigger 0 1 0 2 ∷ [])
  -- 32: a place up to 511, and not its own place alone, by the 64 bits of each word
  pub labels : Tells label_fits
      (remember 0 [] ∷ remember 0 (2 ∷ []) ∷ remember 0 (3 ∷ []) ∷ remember 0 (1 ∷ 1 ∷ []) ∷ remember 64 (1 ∷ []) ∷ remember 511 [] ∷ remember 511 (replicate 8 0xffffffffffffffff)
      ∷ remember 1 (0x10000000000000001 ∷ []) ∷ [])
      (remember 0 (1 ∷ []) ∷ remember 0 (0x10000000000000001 ∷ []) ∷ remember 64 (0 ∷ 1 ∷ []) ∷ remember 511 (0 ∷ 0 ∷ 0 ∷ 0 ∷ 0 ∷ 0 ∷ 0 ∷ 0x8000000000000000 ∷ [])
      ∷ remember 512 [] ∷ remember 65535 (1 ∷ []) ∷ [])
  -- the first label record may be for any place, each other for one above that of the record before
  pub label_order : Tells (rises labelled no_label rising_labels) (0 ∷ 1 ∷ 2 ∷ []) (3 ∷ 4 ∷ [])

pub record StartExamples : Type 0 where
  pub lent : Lengths (replicate 512 (pos 0)) (replicate 8 0) (replicate 4096 0)
  -- a cell that holds 0 is present
  pub amounts : start_amounts start_book ≡ replicate 83 (pos 0) ++ negsuc 4 ∷ replicate 427 (pos 0) ++ pos 9 ∷ []
  pub presence : start_presence start_book ≡ three_present
  -- each cell's label is that of its record, of the first if there were two, and its own place alone where there is none
  pub label_words : (b : Book) → length (start_labels b) ≡ 4096
  pub labels : (b : Book) (p : ℕ) → p < 512 → label_at (start_labels b) p ≡ remembered b.labels p
  pub own : (p : ℕ) → remembered [] p ≡ single 8 p
  pub records : Gives (remembered remembering)
      (0 ⇒ (1 ∷ replicate 7 0) ∷ 1 ⇒ nowhere ∷ 83 ⇒ (1 ∷ replicate 6 0 ++ 0x8000000000000000 ∷ []) ∷ 511 ⇒ (replicate 7 0 ++ 0x8000000000000000 ∷ []) ∷ [])
  pub publics : public_set start_book ≡ places_0
  -- user 7 has two records, and the places of both
  pub reads : read_sets start_book
      ≡ nowhere ∷ nowhere ∷ places_2 ∷ nowhere ∷ nowhere ∷ nowhere ∷ nowhere ∷ (0 ∷ 0 ∷ 0 ∷ 1 ∷ 0 ∷ 0 ∷ 0 ∷ 0xff00000000000000 ∷ []) ∷ []
  pub writes : write_sets start_book ≡ places_1 ∷ nowhere ∷ nowhere ∷ nowhere ∷ nowhere ∷ nowhere ∷ nowhere ∷ nowhere ∷ []

pub record ByteExamples : Type 0 where
  pub w_read : decode w_file ≡ w_book
  -- version 2 reads as the same book, and is what is written
  pub w_read_2 : decode w_file_2 ≡ w_book
  pub w_written : encode w_book ≡ w_file_2
  pub shortest_written : encode no_records ≡ behind 0
  pub each_read : decode each_file ≡ each_book []
  pub each_read_2 : decode each_file_2 ≡ each_book (each_label ∷ [])
  pub each_written : encode (each_book (each_label ∷ [])) ≡ each_file_2
  pub tail_written : tail_bytes large_book ≡ large_tail
  -- the cells that are present, in the order of their places, the labels of lent memory, and the other sections as they were
  pub rewritten : (labels : List ℕ) → with_cells three_amounts three_present labels (each_book (each_label ∷ []))
      ≡ each_with (cell 0 0 0 (negsuc 0) ∷ cell 1 2 3 (pos 0) ∷ cell 7 7 7 (pos 7) ∷ []) (labels_from labels 512 0)
  -- label records of the places whose label is not their own place alone
  pub remembered_labels : labels_from four_labels 4 0 ≡ remember 1 (1 ∷ []) ∷ remember 2 [] ∷ remember 3 (8 ∷ 1 ∷ []) ∷ []
  -- books with the same scripts are the same but for their cells and labels
  pub same_scripts : (b b' : Book) → SameScripts b b' → with_cells [] [] [] b ≡ with_cells [] [] [] b'

pub record Examples : Type 0 where
  pub files : FileExamples
  pub records : RecordExamples
  -- kinds 0 to 27
  pub kind_rows : tabulate row_of 28 ≡ paper_rows
  pub starts : StartExamples
  pub bytes : ByteExamples
