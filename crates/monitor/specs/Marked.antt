-- The paper's marked cases, as one table. Book W is given by its bytes (book/specs/Tables.antt), the other books record by record.
use Rattle.std.specs.Prelude.{List, [], ◌∷◌, ◌++◌, ℕ, pos}
use Rattle.book.specs.Records.{RightRecord, NodeRecord, ProgramRecord, Book}
use Rattle.book.specs.Encode.{encode}
use Rattle.book.specs.Tables.{w_file, w_cells, w_regions, w_rights, w_nodes, constants, may_read, constant, variable, plus, sum, skip, assign, both, if, out, raise, program}
use Rattle.monitor.specs.Tables.{Row, called, Shows, run_list, shows, told}

-- ---- books like W

-- W with other rights, other nodes from 4 on and other programs, and the bytes of that book
abbrev pub w_with : List RightRecord → List NodeRecord → List ProgramRecord → Book
w_with rights nodes programs =
    record { cells = w_cells; regions = w_regions; rights = rights; nodes = constants ++ nodes; programs = programs; triggers = []; labels = [] }

abbrev pub w_file_with : List RightRecord → List NodeRecord → List ProgramRecord → List ℕ
w_file_with rights nodes programs = encode (w_with rights nodes programs)

-- ---- the table

-- 2147483647 + 1, to user 1
abbrev pub beyond : List NodeRecord
beyond = constant (pos 2147483647) ∷ plus 4 1 ∷ out 5 1 ∷ []

-- the sum of owners 3 to 2, to user 1
abbrev pub none_matched : List NodeRecord
none_matched = constant (pos 3) ∷ sum 0 4 2 0 3 ∷ out 5 1 ∷ []

-- 7: if owner 2's sum is nonzero, variable 0 becomes 1; 9: raised first by region 1; 12: and then shown to user 1
abbrev pub branching : List NodeRecord
branching =
    sum 0 2 2 0 3 ∷ assign 0 1 ∷ skip ∷ if 4 5 6
    ∷ raise 0 1 ∷ both 8 7
    ∷ variable 0 ∷ out 10 1 ∷ both 9 11 ∷ []

-- The numbers are the paper's, and so are node and cost in the first six rows. In the others they follow from its rules: a query
-- with its four bounds costs 8, every other node 1.
unfoldable pub marked : List (Row (List ℕ))
marked =
    -- W: 8, 6 and the query 4 cost 10, and then 7 and the query 5 cost 9
    run_list w_file (shows 27 7 19 8 (told 250 ∷ []))
    -- budget 18: the last constant of 5 no longer fits
    ∷ record { of = w_file; budget = 18; trace = 4096; shows = shows 21 3 18 8 (told 250 ∷ []) }
    -- budget 14: 11 are spent when 5 would cost 4
    ∷ record { of = w_file; budget = 14; trace = 4096; shows = shows 21 5 11 8 (told 250 ∷ []) }
    -- trace 7 bytes
    ∷ record { of = w_file; budget = 100000; trace = 7; shows = shows 30 6 10 0 [] }
    -- no right for user 1
    ∷ run_list (w_file_with (may_read 2 1 ∷ []) w_nodes (program 0 8 ∷ [])) (shows 27 6 10 0 [])
    -- no programs
    ∷ run_list (w_file_with w_rights w_nodes []) (shows 0 0 0 0 [])
    -- 2147483647 + 1: out, sum and two constants are entered
    ∷ run_list (w_file_with w_rights beyond (program 0 6 ∷ [])) (shows 22 5 4 0 [])
    -- first 3, last 2: out and a query
    ∷ run_list (w_file_with w_rights none_matched (program 0 6 ∷ [])) (shows 0 0 9 8 (told 0 ∷ []))
    -- a fresh variable: if, a query, assignment and constant
    ∷ run_list (w_file_with w_rights branching (program 0 7 ∷ [])) (shows 25 5 11 0 [])
    -- raised first: two nodes more, and the run passes
    ∷ run_list (w_file_with w_rights branching (program 0 9 ∷ [])) (shows 0 0 13 0 [])
    -- and out to user 1: three nodes more
    ∷ run_list (w_file_with w_rights branching (program 0 12 ∷ [])) (shows 27 11 16 0 [])
    ∷ []

abbrev pub Marked : Type 0
Marked = Shows called marked
