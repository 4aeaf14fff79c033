-- The leaks that a shortcut would open, and the rules do not: books two by two, which differ in one cell that user 1 may not read.
-- With the shortcut that is named above a pair both runs would finish, and what user 1 is told would differ: demand 3 would be false.
-- The answers are worked out by hand from the paper. A query with its four bounds costs 8, every other node 1.
use Rattle.std.specs.Prelude.{List, [], ◌∷◌, ◌++◌, true, ℕ, pos}
use Rattle.book.specs.Records.{CellRecord, NodeRecord, TriggerRecord, Book}
use Rattle.book.specs.Tables.{cell, owner_region, table_region, may_read, may_write, constant, variable, count, sum, skip, assign, both, if, put, clear, out, grant_read, program, trigger}
use Rattle.monitor.specs.Tables.{Row, ran, Shows, run_list, shows, told}

-- Cell (0,2,0) is the hidden one. User 1 may read table 1; user 0 may write both tables, and user 3, of the triggers, table 1.
-- Nodes 0 to 2 are the constants 0, 1, 2; node 3 is the hidden amount.
abbrev pub hiding : List CellRecord → List NodeRecord → ℕ → List TriggerRecord → Book
hiding cells nodes root triggers =
    record {
      cells = cells;
      regions = table_region 0 ∷ table_region 1 ∷ owner_region 0 1 ∷ [];
      rights = may_read 1 1 ∷ may_write 0 0 ∷ may_write 0 1 ∷ may_write 3 1 ∷ [];
      nodes = (constant (pos 0) ∷ constant (pos 1) ∷ constant (pos 2) ∷ sum 0 2 2 0 0 ∷ []) ++ nodes;
      programs = program 0 root ∷ [];
      triggers = triggers;
      labels = [];
    }

abbrev pub holds : ℕ → List CellRecord
holds n = cell 0 2 0 (pos n) ∷ []

-- 1 is told unless the hidden cell is present
abbrev pub by_presence : List NodeRecord
by_presence = count 0 2 2 0 0 ∷ skip ∷ out 1 1 ∷ if 4 5 6 ∷ []

-- variable 0 becomes 1, and 0 if the hidden amount is nonzero; if it is still 1, 1 is told
abbrev pub by_variable : List NodeRecord
by_variable = assign 0 1 ∷ assign 0 0 ∷ skip ∷ if 3 5 6 ∷ variable 0 ∷ out 1 1 ∷ if 8 9 6 ∷ both 4 7 ∷ both 11 10 ∷ []

-- the same with cell (1,0,0) in place of the variable
abbrev pub by_cell : List NodeRecord
by_cell = put 1 0 0 1 ∷ put 1 0 0 0 ∷ skip ∷ if 3 5 6 ∷ sum 1 0 0 0 0 ∷ out 1 1 ∷ if 8 9 6 ∷ both 4 7 ∷ both 11 10 ∷ []

-- The hidden amount, 1 or 2, is put at line 1 of owners 1 and 2, whose labels then hold its place; the cell of the owner that it names is
-- cleared. Body 7 puts 1 at (1,0,0), which is then told.
abbrev pub by_key : List NodeRecord
by_key = put 0 1 1 3 ∷ put 0 2 1 3 ∷ clear 0 3 1 ∷ put 1 0 0 1 ∷ sum 1 0 0 0 0 ∷ out 8 1 ∷ both 4 5 ∷ both 10 6 ∷ both 11 9 ∷ []

-- 1 is told, or region 2 granted to user 1, if the hidden amount is nonzero
abbrev pub by_context : List NodeRecord
by_context = skip ∷ out 1 1 ∷ if 3 5 4 ∷ grant_read 2 1 ∷ if 3 7 4 ∷ []

-- the hidden cell is cleared; body 5 puts 1 at (1,0,0), which is then told
abbrev pub by_clearing : List NodeRecord
by_clearing = clear 0 2 0 ∷ put 1 0 0 1 ∷ sum 1 0 0 0 0 ∷ out 6 1 ∷ both 4 7 ∷ []

unfoldable pub shortcuts : List (Row Book)
shortcuts =
    -- a query labelled by its present cells only: absent, and present
    run_list (hiding [] by_presence 7 []) (shows 27 6 11 0 [])
    ∷ run_list (hiding (holds 0) by_presence 7 []) (shows 0 0 10 0 [])
    -- a variable raised inside a branch instead of stopping: 0 and 1
    ∷ run_list (hiding (holds 0) by_variable 12 []) (shows 0 0 18 8 (told 1 ∷ []))
    ∷ run_list (hiding (holds 1) by_variable 12 []) (shows 25 5 15 0 [])
    -- a cell tested after it is written: 0 and 1
    ∷ run_list (hiding (holds 0) by_cell 12 []) (shows 0 0 27 8 (told 1 ∷ []))
    ∷ run_list (hiding (holds 1) by_cell 12 []) (shows 26 5 19 0 [])
    -- a trigger in the caller's context without the key's label: it fires for owner 1 only
    ∷ run_list (hiding (holds 1) by_key 12 (trigger 2 2 3 7 ∷ [])) (shows 26 7 39 0 [])
    ∷ run_list (hiding (holds 2) by_key 12 (trigger 2 2 3 7 ∷ [])) (shows 0 0 44 8 (told 0 ∷ []))
    -- an out without its context: 0 and 1
    ∷ run_list (hiding (holds 0) by_context 6 []) (shows 0 0 10 0 [])
    ∷ run_list (hiding (holds 1) by_context 6 []) (shows 27 5 11 0 [])
    -- a grant in any context: 0 and 1
    ∷ run_list (hiding (holds 0) by_context 8 []) (shows 0 0 10 0 [])
    ∷ run_list (hiding (holds 1) by_context 8 []) (shows 29 7 10 0 [])
    -- a clear that skips an absent cell: absent, and present
    ∷ run_list (hiding [] by_clearing 8 (trigger 0 2 3 5 ∷ [])) (shows 0 0 17 8 (told 1 ∷ []))
    ∷ run_list (hiding (holds 0) by_clearing 8 (trigger 0 2 3 5 ∷ [])) (shows 0 0 17 8 (told 1 ∷ []))
    ∷ []

abbrev pub Shortcuts : Type 0
Shortcuts = Shows (ran true) shortcuts
