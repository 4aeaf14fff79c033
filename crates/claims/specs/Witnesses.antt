-- Witnesses: what the terms of "Two books side by side" give of single files, runs and results. Demand 3 could be proved of terms that
-- no two books meet, or of which nothing follows; these statements say that its own are met, exclude and are broken as the paper says. At the end,
-- the run that takes nothing back: that the rules' run differs from it in cells alone says something, since for some book it does.
-- Answers, costs, traces and places are worked out by hand from the paper. A query with its four bounds costs 8, every other node 1.
use Rattle.std.specs.Prelude.{◌≡◌, List, [], ◌∷◌, ◌++◌, map, true, false, ◌||◌, ℕ, ◌*◌, eqb, ℤ, pos, length, get_or, take}
use Rattle.book.specs.Records.{CellRecord, RegionRecord, RightRecord, NodeRecord, ProgramRecord, TriggerRecord, Book}
use Rattle.book.specs.Encode.{encode}
use Rattle.book.specs.Tables.{cell, owner_region, table_region, public, may_read, may_write, constant, sum, skip, assign, both, if, put, out, grant_read, grant_write, revoke_read, revoke_write, program, trigger, w_file, w_cells, w_regions, w_rights, constants, w_nodes}
use Rattle.monitor.specs.Labelled.{Label, bottom, Lab, lit}
use Rattle.monitor.specs.Run.{Cell, held, absent, Out, update}
use Rattle.monitor.specs.Call.{Memory, Result, run_book, result_of, call, amounts_in, presence_in, labels_in}
use Rattle.monitor.specs.Tables.{Shown, Row, run_list, shows, told, changed, lent, shown}
use Rattle.monitor.specs.Samples.{eight}
use Rattle.monitor.specs.declared.Answer.TheVariants.{Refused, Stopped, Finished}
use Rattle.claims.specs.TwoBooks.{Group, accepted, finished, visible, group_trace, Begins, reach, SameInside, DifferOutside, cells_in}
use Rattle.claims.specs.Claims.{LearnsNothing}
use Rattle.claims.specs.Undone.{standing_run}
use Rattle.book.specs.declared.Reason.TheVariants as reasons
use Rattle.book.specs.Refusals.{refusal_of}

-- the group of these users
unfoldable pub members : List ℕ → Group
members [] u = false
members (v ∷ vs) u = eqb u v || members vs u

-- the bytes of a book with these records
abbrev pub file_of : List CellRecord → List RegionRecord → List RightRecord → List NodeRecord → List ProgramRecord → List TriggerRecord → List ℕ
file_of cells regions rights nodes programs triggers =
    encode (record { cells = cells; regions = regions; rights = rights; nodes = nodes; programs = programs; triggers = triggers; labels = [] })

-- the places of W's region 0, which is owner 1 of table 0, of its region 1, which is owner 2, and of both
abbrev pub owner_1 : Label
owner_1 = eight 65280

abbrev pub owner_2 : Label
owner_2 = eight 16711680

abbrev pub owners_1_2 : Label
owners_1_2 = eight 16776960

-- ---- the reach

-- a call with what it shows, a group, and its reach in that call's run
pub record Reaching : Type 0 where
  pub row : Row (List ℕ)
  pub group : List ℕ
  pub reach : Label

unfoldable pub reached : ℤ → ℕ → Reaching → Shown × Label
reached z n x =
    let r : Result = call true x.row.of x.row.budget (lent z n x.row.trace) in
    (shown r, reach (members x.group) x.row.of r)

-- a book with W's regions and no cells, and with these rights, nodes and programs
abbrev pub granting : List RightRecord → List NodeRecord → List ProgramRecord → List ℕ
granting rights nodes programs = file_of [] w_regions rights nodes programs []

-- such a book with no program: its run is over at once
abbrev pub idle : List RightRecord → List ℕ → Label → Reaching
idle rights group reach = record { row = run_list (granting rights [] []) (shows 0 0 0 0 []); group = group; reach = reach }

-- the read grant of region 1 to user 1, by user 0
abbrev pub grant_file : List ℕ
grant_file = granting [] (grant_read 1 1 ∷ []) (program 0 0 ∷ [])

-- 3: if cell (0,0,0) is not 0, that grant, and else the same
abbrev pub in_secret : List NodeRecord
in_secret = constant (pos 0) ∷ sum 0 0 0 0 0 ∷ grant_read 1 1 ∷ if 1 2 2 ∷ []

-- 7: 0 is shown to user 1, who is granted the right to write region 1; the rights to read and write it are revoked
abbrev pub other_kinds : List NodeRecord
other_kinds = constant (pos 0) ∷ out 0 1 ∷ grant_write 1 1 ∷ revoke_read 1 1 ∷ revoke_write 1 1 ∷ both 1 2 ∷ both 5 3 ∷ both 6 4 ∷ []

unfoldable pub reaches : List Reaching
reaches =
    -- W, of user 1: region 0, and not the region that user 2 may read
    record { row = run_list w_file (shows 27 7 19 8 (told 250 ∷ [])); group = 1 ∷ []; reach = owner_1 }
    -- W's rights: of user 2 region 1, of both users both; of nobody, and of a user that there is not, the public set, which is empty
    ∷ idle w_rights (2 ∷ []) owner_2
    ∷ idle w_rights (1 ∷ 2 ∷ []) owners_1_2
    ∷ idle w_rights [] bottom
    ∷ idle w_rights (8 ∷ []) bottom
    -- the public set: of nobody all of it, and of user 1 his read set too
    ∷ idle (public 1 ∷ may_read 1 0 ∷ []) [] owner_2
    ∷ idle (public 1 ∷ may_read 1 0 ∷ []) (1 ∷ []) owners_1_2
    -- the first and the last user
    ∷ idle (may_read 0 0 ∷ may_read 7 1 ∷ []) (0 ∷ []) owner_1
    ∷ idle (may_read 0 0 ∷ may_read 7 1 ∷ []) (7 ∷ []) owner_2
    -- what a user may write does not count
    ∷ idle (may_write 1 0 ∷ []) (1 ∷ []) bottom
    -- a read grant that is carried out counts for its user, and for nobody else
    ∷ record { row = run_list grant_file (shows 0 0 1 8 (changed 2 1 1 ∷ [])); group = 1 ∷ []; reach = owner_2 }
    ∷ record { row = run_list grant_file (shows 0 0 1 8 (changed 2 1 1 ∷ [])); group = 0 ∷ 2 ∷ []; reach = bottom }
    -- to what the user may read at the start it is added
    ∷ record {
      row = run_list (granting w_rights (grant_read 1 1 ∷ []) (program 0 0 ∷ [])) (shows 0 0 1 8 (changed 2 1 1 ∷ []));
      group = 1 ∷ [];
      reach = owners_1_2;
    }
    -- and it counts if the run stops later: two grants, and the budget is used up by the first
    ∷ record {
      row = record {
        of = granting [] (grant_read 1 1 ∷ both 0 0 ∷ []) (program 0 1 ∷ []);
        budget = 2;
        trace = 4096;
        shows = shows 21 0 2 8 (changed 2 1 1 ∷ []);
      };
      group = 1 ∷ [];
      reach = owner_2;
    }
    -- a grant on which the run stops adds nothing: with 28, 29 and 30
    ∷ record { row = run_list (granting [] (grant_read 1 1 ∷ []) (program 1 0 ∷ [])) (shows 28 0 1 0 []); group = 1 ∷ []; reach = bottom }
    ∷ record { row = run_list (granting [] in_secret (program 0 3 ∷ [])) (shows 29 2 10 0 []); group = 1 ∷ []; reach = bottom }
    ∷ record { row = record { of = grant_file; budget = 100000; trace = 7; shows = shows 30 0 1 0 [] }; group = 1 ∷ []; reach = bottom }
    -- nor does a record of another kind to him: an out, a write grant, and revokes of what he may not read and write
    ∷ record {
      row = run_list (granting [] other_kinds (program 0 7 ∷ [])) (shows 0 0 8 32 (told 0 ∷ changed 3 1 1 ∷ changed 4 1 1 ∷ changed 5 1 1 ∷ []));
      group = 1 ∷ [];
      reach = bottom;
    }
    -- a revoke takes nothing: neither what a right gave, nor what a grant gave
    ∷ record {
      row = run_list (granting (may_read 1 1 ∷ []) (revoke_read 1 1 ∷ []) (program 0 0 ∷ [])) (shows 0 0 1 8 (changed 4 1 1 ∷ []));
      group = 1 ∷ [];
      reach = owner_2;
    }
    ∷ record {
      row = run_list (granting [] (grant_read 1 1 ∷ revoke_read 1 1 ∷ both 0 1 ∷ []) (program 0 2 ∷ []))
          (shows 0 0 3 16 (changed 2 1 1 ∷ changed 4 1 1 ∷ []));
      group = 1 ∷ [];
      reach = owner_2;
    }
    -- the last of the eight words
    ∷ record {
      row = run_list (file_of [] (table_region 7 ∷ []) (may_read 1 0 ∷ []) [] [] []) (shows 0 0 0 0 []);
      group = 1 ∷ [];
      reach = 0 ∷ 0 ∷ 0 ∷ 0 ∷ 0 ∷ 0 ∷ 0 ∷ 18446744073709551615 ∷ [];
    }
    ∷ []

-- each call shows what its row says, and the reach is exactly that of its row, whatever lent memory was filled with
abbrev pub Reaches : Type 0
Reaches = (z : ℤ) (n : ℕ) → map (reached z n) reaches ≡ map (λ (x : Reaching). (x.row.shows, x.reach)) reaches

-- ---- pairs of books that meet the premises of demand 3

-- two calls with what they show, a group, its reach in the first, its two traces, and the cells that are left at one place
pub record Pair : Type 0 where
  pub group : List ℕ
  pub first : Row (List ℕ)
  pub second : Row (List ℕ)
  pub lengths : ℕ × ℕ  -- of the two files
  pub reach : Label
  pub sees : List (List ℕ) × List (List ℕ)
  pub place : ℕ
  pub cells : Cell × Cell

unfoldable pub result_of_row : ℤ → ℕ → Row (List ℕ) → Result
result_of_row z n row = call true row.of row.budget (lent z n row.trace)

-- both are accepted and differ only outside the reach, and all is as the pair says
pub record Meets (p : Pair) (first second : Result) : Type 0 where
  pub first_accepted : accepted first.answer ≡ true
  pub second_accepted : accepted second.answer ≡ true
  pub reach_is : reach (members p.group) p.first.of first ≡ p.reach
  pub differ : DifferOutside (reach (members p.group) p.first.of first) p.first.of p.second.of
  pub lengths_are : p.lengths ≡ (length p.first.of, length p.second.of)
  pub first_shows : shown first ≡ p.first.shows
  pub second_shows : shown second ≡ p.second.shows
  pub sees_are : p.sees ≡ (group_trace (members p.group) first, group_trace (members p.group) second)
  pub cells_are : p.cells ≡ ((cells_in first.memory p.place).val, (cells_in second.memory p.place).val)

-- W's regions and rights, with these nodes after W's constants and a program of user 0; once with cell (0,2,0), once without
abbrev pub with_secret : List NodeRecord → ℕ → List ℕ
with_secret nodes root = file_of w_cells w_regions w_rights (constants ++ nodes) (program 0 root ∷ []) []

abbrev pub without_secret : List NodeRecord → ℕ → List ℕ
without_secret nodes root = file_of (cell 0 1 0 (pos 250) ∷ []) w_regions w_rights (constants ++ nodes) (program 0 root ∷ []) []

-- owner 1's sum to user 1, then owner 2's sum to user 2
abbrev pub to_each : List NodeRecord
to_each = sum 0 1 1 0 3 ∷ out 4 1 ∷ sum 0 2 2 0 3 ∷ out 6 2 ∷ both 5 7 ∷ []

-- owner 1's sum to user 1; if owner 2's sum is nonzero, a fresh variable is assigned; owner 1's sum to user 1 again
abbrev pub between_outs : List NodeRecord
between_outs = sum 0 1 1 0 3 ∷ out 4 1 ∷ sum 0 2 2 0 3 ∷ assign 0 1 ∷ skip ∷ if 6 7 8 ∷ both 5 9 ∷ both 10 5 ∷ []

-- owner 1's sum to user 1; if owner 2's sum is nonzero, a fresh variable is assigned, and else 0 goes to user 1
abbrev pub either_way : List NodeRecord
either_way = sum 0 1 1 0 3 ∷ out 4 1 ∷ sum 0 2 2 0 3 ∷ assign 0 1 ∷ out 0 1 ∷ if 6 7 8 ∷ both 5 9 ∷ []

-- an out of an amount below 65,536 to user 2
abbrev pub told_2 : ℕ → ℕ → List ℕ
told_2 low high = 1 ∷ 2 ∷ 0 ∷ 0 ∷ low ∷ high ∷ 0 ∷ 0 ∷ []

-- Both finish. User 2 is told 900 or 0, the cell is left as it was, and user 1 sees the same. The second call has just enough budget
-- and trace.
unfoldable pub both_finish : Pair
both_finish = record {
  group = 1 ∷ [];
  first = run_list (with_secret to_each 8) (shows 0 0 19 16 (told 250 ∷ told_2 132 3 ∷ []));
  second = record { of = without_secret to_each 8; budget = 19; trace = 16; shows = shows 0 0 19 16 (told 250 ∷ told_2 0 0 ∷ []) };
  lengths = (228, 220);
  reach = owner_1;
  sees = (told 250 ∷ [], told 250 ∷ []);
  place = 16;
  cells = (held (pos 900), absent);
}

-- The first stops on the assignment, and what user 1 sees of it is a proper beginning of what he sees of the second.
unfoldable pub first_stops : Pair
first_stops = record {
  group = 1 ∷ [];
  first = run_list (with_secret between_outs 11) (shows 25 7 22 8 (told 250 ∷ []));
  second = run_list (without_secret between_outs 11) (shows 0 0 30 16 (told 250 ∷ told 250 ∷ []));
  lengths = (276, 268);
  reach = owner_1;
  sees = (told 250 ∷ [], told 250 ∷ told 250 ∷ []);
  place = 16;
  cells = (held (pos 900), absent);
}

-- The same books the other way round; the trace of the call that stops has room for one record only.
unfoldable pub second_stops : Pair
second_stops = record {
  group = 1 ∷ [];
  first = run_list (without_secret between_outs 11) (shows 0 0 30 16 (told 250 ∷ told 250 ∷ []));
  second = record { of = with_secret between_outs 11; budget = 100; trace = 8; shows = shows 25 7 22 8 (told 250 ∷ []) };
  lengths = (268, 276);
  reach = owner_1;
  sees = (told 250 ∷ told 250 ∷ [], told 250 ∷ []);
  place = 16;
  cells = (absent, held (pos 900));
}

-- Both stop, on two nodes with two numbers.
unfoldable pub both_stop : Pair
both_stop = record {
  group = 1 ∷ [];
  first = run_list (with_secret either_way 10) (shows 25 7 21 8 (told 250 ∷ []));
  second = run_list (without_secret either_way 10) (shows 27 8 21 8 (told 250 ∷ []));
  lengths = (260, 252);
  reach = owner_1;
  sees = (told 250 ∷ [], told 250 ∷ []);
  place = 16;
  cells = (held (pos 900), absent);
}

-- a pair is met whatever lent memory was filled with
abbrev pub Met : Pair → Type 0
Met p = (z z' : ℤ) (n n' : ℕ) → Meets p (result_of_row z n p.first) (result_of_row z' n' p.second)

pub record Pairs : Type 0 where
  pub finish : Met both_finish
  pub one_stops : Met first_stops
  pub other_stops : Met second_stops
  pub stop : Met both_stop

-- ---- books that differ in more than cells outside the reach

-- W's nodes, and W with other cells
abbrev pub w_nodes_all : List NodeRecord
w_nodes_all = constants ++ w_nodes

abbrev pub w_other_cells : List CellRecord → List ℕ
w_other_cells cells = file_of cells w_regions w_rights w_nodes_all (program 0 8 ∷ []) []

-- it does not differ from W only outside user 1's reach
abbrev pub Excluded : List ℕ → Type 0
Excluded file = DifferOutside owner_1 w_file file → ⊥

pub record Exclusions : Type 0 where
  -- a cell inside: by its amount, by its presence alone, and by both
  pub amount : Excluded (w_other_cells (cell 0 1 0 (pos 251) ∷ cell 0 2 0 (pos 900) ∷ []))
  pub there : Excluded (w_other_cells (cell 0 1 0 (pos 250) ∷ cell 0 1 7 (pos 0) ∷ cell 0 2 0 (pos 900) ∷ []))
  pub gone : Excluded (w_other_cells (cell 0 2 0 (pos 900) ∷ []))
  -- a record of each other section, or their order; that the trigger's body is refused is beside the point, as acceptance is a premise
  -- of its own
  pub regions : Excluded (file_of w_cells (owner_region 0 1 ∷ owner_region 0 3 ∷ []) w_rights w_nodes_all (program 0 8 ∷ []) [])
  pub rights : Excluded (file_of w_cells w_regions (may_read 1 0 ∷ may_read 3 1 ∷ []) w_nodes_all (program 0 8 ∷ []) [])
  pub order : Excluded (file_of w_cells w_regions (may_read 2 1 ∷ may_read 1 0 ∷ []) w_nodes_all (program 0 8 ∷ []) [])
  pub nodes : Excluded (file_of w_cells w_regions w_rights (w_nodes_all ++ (skip ∷ [])) (program 0 8 ∷ []) [])
  pub programs : Excluded (file_of w_cells w_regions w_rights w_nodes_all (program 0 6 ∷ []) [])
  pub triggers : Excluded (file_of w_cells w_regions w_rights w_nodes_all (program 0 8 ∷ []) (trigger 0 1 3 6 ∷ []))

-- ---- cells that are the same inside a reach

-- one cell of its own at place q; all others are absent, with the empty label
unfoldable pub only : ℕ → Lab Cell → ℕ → Lab Cell
only q x = update (λ p. lit absent) q x

-- place 8 is in user 1's reach, place 16 is not
abbrev pub inside_8 : Cell → Lab Cell
inside_8 c = record { val = c; lab = eight 256 }

abbrev pub outside_16 : Cell → Lab Cell
outside_16 c = record { val = c; lab = eight 65536 }

pub record Sides : Type 0 where
  -- different amounts, presence, or labels: not the same, if one of the two labels lies inside
  pub amounts : SameInside owner_1 (only 8 (inside_8 (held (pos 1)))) (only 8 (inside_8 (held (pos 2)))) → ⊥
  pub presence : SameInside owner_1 (only 8 (inside_8 (held (pos 0)))) (only 8 (inside_8 absent)) → ⊥
  pub labels : SameInside owner_1 (only 8 (inside_8 (held (pos 1)))) (only 8 (lit (held (pos 1)))) → ⊥
  pub first_in : SameInside owner_1 (only 8 (inside_8 (held (pos 1)))) (only 8 (outside_16 (held (pos 1)))) → ⊥
  pub second_in : SameInside owner_1 (only 8 (outside_16 (held (pos 1)))) (only 8 (inside_8 (held (pos 1)))) → ⊥
  -- an empty label always lies inside
  pub empty_in : SameInside bottom (only 8 (lit (held (pos 1)))) (only 8 (lit (held (pos 2)))) → ⊥
  -- a label with one place outside does not, though the other is inside
  pub outside : SameInside owner_1 (only 8 (outside_16 (held (pos 1)))) (only 8 (record { val = absent; lab = eight 65792 }))
  -- the last place counts, and none beyond it
  pub last : SameInside owner_1 (only 511 (lit (held (pos 1)))) (only 511 (lit absent)) → ⊥
  pub beyond : SameInside owner_1 (only 512 (lit (held (pos 1)))) (only 512 (lit absent))

-- ---- two results: what is a leak to user 1, and what is not

-- these records one after another
unfoldable pub joined_bytes : List (List ℕ) → List ℕ
joined_bytes [] = []
joined_bytes (r ∷ rs) = r ++ joined_bytes rs

-- lent memory with these records, then these bytes, and these cells
unfoldable pub memory_of : List (List ℕ) → List ℕ → (ℕ → Lab Cell) → Memory
memory_of records later cells =
    record { amounts = amounts_in cells; presence = presence_in cells; labels = labels_in cells 512; trace = joined_bytes records ++ later }

-- a run that finished, told these records and left this cell at place q; another record stands in the trace behind those that the
-- answer counts
unfoldable pub over_at : ℕ → List (List ℕ) → Lab Cell → Result
over_at q records x = record { answer = Finished 9 (8 * length records); memory = memory_of records (told 7) (only q x) }

-- at place 8; and a run that stopped
unfoldable pub over : List (List ℕ) → Lab Cell → Result
over records x = over_at 8 records x

unfoldable pub broken : List (List ℕ) → Lab Cell → Result
broken records x = record { answer = Stopped 27 4 9 (8 * length records); memory = memory_of records [] (only 8 x) }

abbrev pub IsNoLeak : List ℕ → Result → Result → Type 0
IsNoLeak group first second = LearnsNothing (members group) owner_1 first second

abbrev pub IsLeak : List ℕ → Result → Result → Type 0
IsLeak group first second = IsNoLeak group first second → ⊥

abbrev pub plain : Lab Cell
plain = inside_8 (held (pos 1))

pub record Leaks : Type 0 where
  -- runs that finish and tell user 1 different amounts
  pub amounts : IsLeak (1 ∷ []) (over (told 5 ∷ []) plain) (over (told 6 ∷ []) plain)
  -- a run that finishes and tells less than the other, which finishes or stops, first or second
  pub less : IsLeak (1 ∷ []) (over [] plain) (over (told 5 ∷ []) plain)
  pub less_first : IsLeak (1 ∷ []) (over [] plain) (broken (told 5 ∷ []) plain)
  pub less_second : IsLeak (1 ∷ []) (broken (told 5 ∷ []) plain) (over [] plain)
  -- runs that stop, where neither trace begins the other
  pub neither : IsLeak (1 ∷ []) (broken (told 1 ∷ told 5 ∷ []) plain) (broken (told 1 ∷ told 6 ∷ told 5 ∷ []) plain)
  -- the same traces, and a cell inside the reach that differs in amount, presence or label
  pub cell_amount : IsLeak (1 ∷ []) (over (told 5 ∷ []) plain) (over (told 5 ∷ []) (inside_8 (held (pos 2))))
  pub cell_presence : IsLeak (1 ∷ []) (over (told 5 ∷ []) (inside_8 (held (pos 0)))) (over (told 5 ∷ []) (inside_8 absent))
  pub cell_label : IsLeak (1 ∷ []) (over (told 5 ∷ []) plain) (over (told 5 ∷ []) (outside_16 (held (pos 1))))
  pub cell_last : IsLeak (1 ∷ []) (over_at 511 (told 5 ∷ []) (lit (held (pos 1)))) (over_at 511 (told 5 ∷ []) (lit absent))
  -- changes of rights, which a group of nobody sees too
  pub rights : IsLeak [] (over (changed 2 1 0 ∷ []) plain) (over (changed 2 1 1 ∷ []) plain)
  pub right_more : IsLeak [] (over (changed 5 7 1 ∷ []) plain) (over [] plain)

pub record NoLeaks : Type 0 where
  -- outs to others
  pub others : IsNoLeak (1 ∷ []) (over (told_2 1 0 ∷ told 5 ∷ []) plain) (over (told 5 ∷ told_2 2 0 ∷ told_2 3 0 ∷ []) plain)
  -- a cell outside the reach
  pub cell_outside : IsNoLeak (1 ∷ []) (over (told 5 ∷ []) (outside_16 (held (pos 1)))) (over (told 5 ∷ []) (outside_16 absent))
  -- where a run stops, and what it leaves
  pub cut_short : IsNoLeak (1 ∷ []) (over (told 5 ∷ told 6 ∷ []) plain) (broken (told 5 ∷ []) (inside_8 absent))
  -- a record that the answer does not count
  pub not_counted : IsNoLeak (1 ∷ []) (broken [] plain) (over [] plain)

-- ---- the terms, at their limits

pub record Terms : Type 0 where
  pub accepting : map accepted (Refused (refusal_of reasons.Lent 0) ∷ Refused (refusal_of reasons.Trigger 7) ∷ Stopped 21 0 0 0 ∷ Stopped 30 1 2 8 ∷ Finished 0 0 ∷ Finished 9 8 ∷ [])
      ≡ false ∷ false ∷ true ∷ true ∷ true ∷ true ∷ []
  pub finishing : map finished (Refused (refusal_of reasons.Lent 0) ∷ Refused (refusal_of reasons.Trigger 7) ∷ Stopped 21 0 0 0 ∷ Stopped 30 1 2 8 ∷ Finished 0 0 ∷ Finished 9 8 ∷ [])
      ≡ false ∷ false ∷ false ∷ false ∷ true ∷ true ∷ []
  -- records of kinds 0 to 6 with a member and with another
  pub to_member : map (λ kind. visible (members (3 ∷ [])) (changed kind 3 0)) (0 ∷ 1 ∷ 2 ∷ 3 ∷ 4 ∷ 5 ∷ 6 ∷ [])
      ≡ false ∷ true ∷ true ∷ true ∷ true ∷ true ∷ false ∷ []
  pub to_other : map (λ kind. visible (members (3 ∷ [])) (changed kind 4 3)) (0 ∷ 1 ∷ 2 ∷ 3 ∷ 4 ∷ 5 ∷ 6 ∷ [])
      ≡ false ∷ false ∷ true ∷ true ∷ true ∷ true ∷ false ∷ []
  -- none and all included; not more, not other ones, and not from the middle
  pub none_begins : Begins [] (told 5 ∷ [])
  pub all_begins : Begins (told 5 ∷ []) (told 5 ∷ [])
  pub more_not : Begins (told 5 ∷ told 6 ∷ []) (told 5 ∷ []) → ⊥
  pub other_not : Begins (told 6 ∷ []) (told 5 ∷ told 6 ∷ []) → ⊥
  -- two traces that begin each other are the same; so `traces` of LearnsNothing follows from `first_whole` and `second_whole`
  pub both_begin : (x y : List (List ℕ)) → Begins x y → Begins y x → x ≡ y

-- ---- what a stop takes back

-- 2 is put at (0,0,0), where 5 is; its trigger puts 7 at (0,1,0), which is absent, and then stops at owner 8
abbrev pub failing_book : Book
failing_book = record {
  cells = cell 0 0 0 (pos 5) ∷ [];
  regions = table_region 0 ∷ [];
  rights = may_write 0 0 ∷ [];
  nodes = constants ++ (constant (pos 8) ∷ put 0 0 0 2 ∷ put 0 1 0 3 ∷ put 0 4 0 0 ∷ both 6 7 ∷ []);
  programs = program 0 5 ∷ [];
  triggers = trigger 0 1 0 8 ∷ [];
  labels = [];
}

-- what a run of it leaves at places 0 and 8: the amounts, and of presence and of their labels the first words
abbrev pub left_by : Out (Unit {0}) → Memory → List ℤ × List ℕ × List ℕ
left_by o m =
    let left = (result_of 100 m o).memory in
    (map (λ q. get_or left.amounts q (pos 0)) (0 ∷ 8 ∷ []), take 1 left.presence, map (λ i. get_or left.labels i 0) (0 ∷ 64 ∷ []))

-- The rule before Change 2 lets stand what the posting wrote, and the rules do not; both runs answer alike. The put costs 4, the sequence 1, and
-- each put of the trigger 4.
pub record Undoes : Type 0 where
  pub stands : (m : Memory) → left_by (standing_run true failing_book 100 2) m ≡ (pos 2 ∷ pos 7 ∷ [], 257 ∷ [], 0 ∷ 0 ∷ [])
  pub undone : (m : Memory) → left_by (run_book true failing_book 100 2) m ≡ (pos 5 ∷ pos 0 ∷ [], 1 ∷ [], 1 ∷ 256 ∷ [])
  pub answers : (m : Memory) → ((result_of 100 m (standing_run true failing_book 100 2)).answer ≡ Stopped 23 7 13 0)
      × ((result_of 100 m (run_book true failing_book 100 2)).answer ≡ Stopped 23 7 13 0)
