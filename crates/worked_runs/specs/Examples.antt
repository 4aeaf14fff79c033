-- Worked examples: what the rules give in single cases, among them cases in which comparing two books shows nothing.
-- The answers are worked out by hand from the paper. A query with its four bounds costs 8, every other node 1.
use Rattle.std.specs.Prelude.{List, [], ◌∷◌, ◌++◌, Bool, true, false, ℕ, pos}
use Rattle.book.specs.Records.{RightRecord, NodeRecord, ProgramRecord, TriggerRecord, Book}
use Rattle.book.specs.Tables.{cell, table_region, public, may_read, may_write, constant, variable, plus, minus, equals, less, count, sum, smallest, largest, skip, assign, both, if, while, put, clear, out, grant_read, grant_write, revoke_read, revoke_write, raise, program, trigger, w_rights, w_nodes}
use Rattle.monitor.specs.Labelled.{Label, Lab, lit}
use Rattle.monitor.specs.Run.{Cell, held, absent}
use Rattle.monitor.specs.Tables.{Shown, Row, ran, Shows, run_list, shows, told, changed, Leaving, Leaves}
use Rattle.monitor.specs.Marked.{w_with, beyond, branching}

-- ---- without triggers: W with other nodes from 4 on; nodes 0 to 3 are the constants 0, 1, 2, 7

-- three queries over both owners, to user 1
abbrev pub queries : List NodeRecord
queries = count 0 1 2 0 3 ∷ out 4 1 ∷ smallest 0 1 2 0 3 ∷ out 6 1 ∷ largest 0 1 2 0 3 ∷ out 8 1 ∷ both 5 7 ∷ both 10 9 ∷ []

-- to user 1, of owners 2 to 1: their smallest, their largest, the sum of both, a sum with that smallest as its first bound, and how many they are
-- plus their sum
abbrev pub nothing : List NodeRecord
nothing =
    smallest 0 2 1 0 3 ∷ out 4 1 ∷ largest 0 2 1 0 3 ∷ out 6 1 ∷ plus 4 6 ∷ out 8 1 ∷ sum 0 4 1 0 3 ∷ out 10 1
    ∷ count 0 2 1 0 3 ∷ sum 0 2 1 0 3 ∷ plus 12 13 ∷ out 14 1 ∷ []

-- smallest and largest of lines 1 to 2 of owner 1, which are absent, each to user 1: 4 to 7. In 13 user 0 puts 0 at line 2 before both, clears
-- it, and then comes the largest again. 16 and 18 tell the smallest of lines 8 to 7, and the largest of owner 8
abbrev pub sparse : List NodeRecord
sparse =
    smallest 0 1 1 1 2 ∷ out 4 1 ∷ largest 0 1 1 1 2 ∷ out 6 1 ∷ put 0 1 2 0 ∷ clear 0 1 2 ∷ both 8 5 ∷ both 10 7 ∷ both 11 9 ∷ both 12 7
    ∷ constant (pos 8) ∷ smallest 0 1 1 14 3 ∷ out 15 1 ∷ largest 0 14 14 0 3 ∷ out 17 1 ∷ []

-- 0 - 1, whether that is less than 0, and whether 1 equals 2, to user 1
abbrev pub comparing : List NodeRecord
comparing = minus 0 1 ∷ out 4 1 ∷ less 4 0 ∷ out 6 1 ∷ equals 1 2 ∷ out 8 1 ∷ both 5 7 ∷ both 10 9 ∷ []

-- variable 0 is raised by owner 2's places, then assigned 1, then shown to user 1
abbrev pub lowered : List NodeRecord
lowered = raise 0 1 ∷ assign 0 1 ∷ variable 0 ∷ out 6 1 ∷ both 4 5 ∷ both 8 7 ∷ []

-- variable 0 becomes 2, and while it is nonzero it becomes one less
abbrev pub counting : List NodeRecord
counting = assign 0 2 ∷ variable 0 ∷ minus 5 1 ∷ assign 0 6 ∷ while 5 7 ∷ both 4 8 ∷ []

-- owner 2's sum to user 1 after a grant, and again after a revoke
abbrev pub lending : List NodeRecord
lending = sum 0 2 2 0 3 ∷ grant_read 1 1 ∷ out 4 1 ∷ revoke_read 1 1 ∷ both 5 6 ∷ both 8 7 ∷ both 9 6 ∷ []

-- region 0 is revoked for user 1, and then owner 1's sum goes to him
abbrev pub revoking : List NodeRecord
revoking = sum 0 1 1 0 3 ∷ out 4 1 ∷ revoke_read 0 1 ∷ both 6 5 ∷ []

-- user 1, who may read region 0, is granted region 1 and shown the sum of both owners
abbrev pub lending_more : List NodeRecord
lending_more = sum 0 1 2 0 3 ∷ grant_read 1 1 ∷ out 4 1 ∷ both 5 6 ∷ []

-- region 1 is revoked for user 1, who is shown owner 1's sum and then that of both owners
abbrev pub revoking_one : List NodeRecord
revoking_one = sum 0 1 1 0 3 ∷ revoke_read 1 1 ∷ out 4 1 ∷ sum 0 1 2 0 3 ∷ out 7 1 ∷ both 5 6 ∷ both 9 8 ∷ []

-- user 0 is granted region 1 to write, puts for owners 1 and 2, loses region 1 again, and puts for both once more
abbrev pub writing_more : List NodeRecord
writing_more =
    grant_write 1 0 ∷ put 0 1 0 1 ∷ put 0 2 0 1 ∷ revoke_write 1 0
    ∷ both 4 5 ∷ both 8 6 ∷ both 9 7 ∷ both 10 5 ∷ both 11 6 ∷ []

-- user 0 may write region 0, puts, may no longer, and puts again
abbrev pub writing : List NodeRecord
writing = grant_write 0 0 ∷ put 0 1 0 1 ∷ revoke_write 0 0 ∷ both 4 5 ∷ both 7 6 ∷ both 8 5 ∷ []

-- 7: if owner 2's sum is nonzero, region 1 is granted to user 1; 9: or cell (0,1,0) becomes 1
abbrev pub in_secret : List NodeRecord
in_secret = sum 0 2 2 0 3 ∷ grant_read 1 1 ∷ skip ∷ if 4 5 6 ∷ put 0 1 0 1 ∷ if 4 8 6 ∷ []

-- 7: if owner 2's sum is nonzero, 1 is shown to user 1; 9: while it is nonzero, variable 0 becomes 1
abbrev pub telling : List NodeRecord
telling = sum 0 2 2 0 3 ∷ out 1 1 ∷ skip ∷ if 4 5 6 ∷ assign 0 1 ∷ while 4 8 ∷ []

-- the sum of owner 3, of whom no cell is present, to user 1
abbrev pub all_absent : List NodeRecord
all_absent = constant (pos 3) ∷ sum 0 4 4 0 3 ∷ out 5 1 ∷ []

-- the absent cell (0,1,2) is cleared and then shown to user 1
abbrev pub clearing : List NodeRecord
clearing = clear 0 1 2 ∷ sum 0 1 1 2 2 ∷ out 5 1 ∷ both 4 6 ∷ []

-- 4: variable 0 becomes 1; 6: variable 0 to user 1
abbrev pub one_each : List NodeRecord
one_each = assign 0 1 ∷ variable 0 ∷ out 5 1 ∷ []

-- ---- with triggers: user 0 may write table 0, and user 3 table 1

-- nodes 0 to 2 are the constants 0, 1, 2; 6 is the body that copies a write to table 1
abbrev pub copying : List NodeRecord
copying = constant (pos 0) ∷ constant (pos 1) ∷ constant (pos 2) ∷ variable 0 ∷ variable 1 ∷ variable 2 ∷ put 1 3 4 5 ∷ []

-- cell (0,1,0) holds 1; further rights, nodes from 7 on, the root of user 0's program, and the triggers
abbrev pub posting : List RightRecord → List NodeRecord → ℕ → List TriggerRecord → Book
posting rights nodes root triggers =
    record {
      cells = cell 0 1 0 (pos 1) ∷ [];
      regions = table_region 0 ∷ table_region 1 ∷ [];
      rights = may_write 0 0 ∷ may_write 3 1 ∷ rights;
      nodes = copying ++ nodes;
      programs = program 0 root ∷ [];
      triggers = triggers;
      labels = [];
    }

-- 2 is put at owner 1, line 0, and the copy is shown to user 1
abbrev pub posted : List NodeRecord
posted = put 0 1 0 2 ∷ sum 1 1 1 0 0 ∷ out 8 1 ∷ both 7 9 ∷ []

-- the same, and the amount is owner 2's line 0
abbrev pub posted_secret : List NodeRecord
posted_secret = sum 0 2 2 0 0 ∷ put 0 1 0 7 ∷ sum 1 1 1 0 0 ∷ out 9 1 ∷ both 8 10 ∷ []

-- the owner of the put is read from cell (0,1,0) itself; 9 is a body that assigns variable 5
abbrev pub keyed : List NodeRecord
keyed = sum 0 1 1 0 0 ∷ put 0 7 0 2 ∷ assign 5 1 ∷ []

-- bodies 7 and 8 put 1 and 2 at the written key of table 1, which is then shown
abbrev pub in_turn : List NodeRecord
in_turn = put 1 3 4 1 ∷ put 1 3 4 2 ∷ put 0 1 0 2 ∷ sum 1 1 1 0 0 ∷ out 10 1 ∷ both 9 11 ∷ []

-- body 8 puts the amount of a write to line 2 of its owner in table 0; then owner 1's lines 0 to 2 of table 0 are shown
abbrev pub back_and_forth : List NodeRecord
back_and_forth = put 0 1 0 2 ∷ put 0 3 2 5 ∷ sum 0 1 1 0 2 ∷ out 9 1 ∷ both 7 10 ∷ []

-- body 7 puts 1 at the written key itself, which fires body 6 with 1; then the copy is shown, and the cell
abbrev pub overwritten : List NodeRecord
overwritten = put 0 3 4 1 ∷ put 0 1 0 2 ∷ sum 1 1 1 0 0 ∷ out 9 1 ∷ sum 0 1 1 0 0 ∷ out 11 1 ∷ both 8 10 ∷ both 13 12 ∷ []

-- owner 2's line 1 is absent and cleared; body 8 puts the amount, which is 0, plus 1 at the written key of table 1
abbrev pub cleared : List NodeRecord
cleared = plus 5 1 ∷ put 1 3 4 7 ∷ clear 0 2 1 ∷ sum 1 2 2 1 1 ∷ out 10 1 ∷ both 9 11 ∷ []

-- ---- the tables

-- user 1 is told 1150
abbrev pub told_1150 : List ℕ
told_1150 = 1 ∷ 1 ∷ 0 ∷ 0 ∷ 126 ∷ 4 ∷ 0 ∷ 0 ∷ []

unfoldable pub examples : List (Row Book)
examples =
    -- count, smallest and largest: 11, 10, three outs and queries
    run_list (w_with (may_read 1 0 ∷ may_read 1 1 ∷ []) queries (program 0 11 ∷ []))
    (shows 0 0 29 24 (told 2 ∷ told 250 ∷ (1 ∷ 1 ∷ 0 ∷ 0 ∷ 132 ∷ 3 ∷ 0 ∷ 0 ∷ []) ∷ []))
    -- smallest and largest of nothing stop on their node: out and query
    ∷ run_list (w_with w_rights nothing (program 0 5 ∷ [])) (shows 31 4 9 0 [])
    ∷ run_list (w_with w_rights nothing (program 0 7 ∷ [])) (shows 31 6 9 0 [])
    -- as a first part, before the second: out, sum and query. And as a bound: out, a query's 4, and the query
    ∷ run_list (w_with w_rights nothing (program 0 9 ∷ [])) (shows 31 4 10 0 [])
    ∷ run_list (w_with w_rights nothing (program 0 11 ∷ [])) (shows 31 4 13 0 [])
    -- count and sum of nothing are 0: out, sum and two queries
    ∷ run_list (w_with w_rights nothing (program 0 15 ∷ [])) (shows 0 0 18 8 (told 0 ∷ []))
    -- of absent cells: out and query
    ∷ run_list (w_with w_rights sparse (program 0 5 ∷ [])) (shows 31 4 9 0 [])
    ∷ run_list (w_with w_rights sparse (program 0 7 ∷ [])) (shows 31 6 9 0 [])
    -- of lines 8 to 7, and of owner 8
    ∷ run_list (w_with w_rights sparse (program 0 16 ∷ [])) (shows 31 15 9 0 [])
    ∷ run_list (w_with w_rights sparse (program 0 18 ∷ [])) (shows 31 17 9 0 [])
    -- of one present cell of 0, and no more once it is cleared: 13, 12, 11, 10, put of 4, two outs with queries, clear of 3, and the last out
    ∷ run_list (w_with (may_read 1 0 ∷ may_write 0 0 ∷ []) sparse (program 0 13 ∷ [])) (shows 31 6 38 16 (told 0 ∷ told 0 ∷ []))
    -- minus one, yes and no: 11, 10, outs with 3, 5 and 3 nodes below
    ∷ run_list (w_with w_rights comparing (program 0 11 ∷ [])) (shows 0 0 16 24 ((1 ∷ 1 ∷ 0 ∷ 0 ∷ 255 ∷ 255 ∷ 255 ∷ 255 ∷ []) ∷ told 1 ∷ told 0 ∷ []))
    -- eight bytes of trace are room for one record, and not readable comes before no room
    ∷ record { of = w_with w_rights w_nodes (program 0 8 ∷ []); budget = 100000; trace = 8; shows = shows 27 7 19 8 (told 250 ∷ []) }
    -- fifteen bytes are room for one record too
    ∷ record { of = w_with (may_read 1 0 ∷ may_read 1 1 ∷ []) w_nodes (program 0 8 ∷ []); budget = 100000; trace = 15; shows = shows 30 7 19 8 (told 250 ∷ []) }
    -- with no budget at all the root is not entered
    ∷ record { of = w_with w_rights w_nodes (program 0 8 ∷ []); budget = 0; trace = 4096; shows = shows 21 8 0 0 [] }
    -- and a budget of 1 is enough for one node
    ∷ record { of = w_with w_rights (skip ∷ []) (program 0 4 ∷ []); budget = 1; trace = 4096; shows = shows 0 0 1 0 [] }
    -- an assigned variable's label does not keep the old one; seven nodes
    ∷ run_list (w_with w_rights lowered (program 0 9 ∷ [])) (shows 0 0 7 8 (told 1 ∷ []))
    -- a while costs 2 for each of its three tests, its body 4 for each of two turns; 9, 4 and a constant cost 3
    ∷ run_list (w_with w_rights counting (program 0 9 ∷ [])) (shows 0 0 17 0 [])
    -- granted, shown and revoked: 10, 9, 8, 5, 6 with its query, 7, and 6 with its query again
    ∷ run_list (w_with w_rights lending (program 0 10 ∷ []))
    (shows 27 6 23 24 (changed 2 1 1 ∷ (1 ∷ 1 ∷ 0 ∷ 0 ∷ 132 ∷ 3 ∷ 0 ∷ 0 ∷ []) ∷ changed 4 1 1 ∷ []))
    -- a revoke leaves what is public: 7, 6, and 5 with its query
    ∷ run_list (w_with (public 0 ∷ may_read 1 0 ∷ []) revoking (program 0 7 ∷ []))
    (shows 0 0 11 16 (changed 4 1 0 ∷ told 250 ∷ []))
    -- and takes what is not
    ∷ run_list (w_with (may_read 1 0 ∷ []) revoking (program 0 7 ∷ [])) (shows 27 5 11 8 (changed 4 1 0 ∷ []))
    -- a grant adds to what was there: 7, grant, out and query
    ∷ run_list (w_with (may_read 1 0 ∷ []) lending_more (program 0 7 ∷ [])) (shows 0 0 11 16 (changed 2 1 1 ∷ told_1150 ∷ []))
    -- and lasts to the next program, whoever runs it
    ∷ run_list (w_with (may_read 1 0 ∷ []) lending_more (program 0 5 ∷ program 2 6 ∷ [])) (shows 0 0 10 16 (changed 2 1 1 ∷ told_1150 ∷ []))
    -- a revoke takes one region and leaves the other: 10, 9, revoke, and two outs with queries
    ∷ run_list (w_with (may_read 1 0 ∷ may_read 1 1 ∷ []) revoking_one (program 0 10 ∷ [])) (shows 27 8 21 16 (changed 4 1 1 ∷ told 250 ∷ []))
    -- and lasts to the next program
    ∷ run_list (w_with (may_read 1 0 ∷ []) revoking (program 0 6 ∷ program 2 5 ∷ [])) (shows 27 5 10 8 (changed 4 1 0 ∷ []))
    -- it takes what two records gave
    ∷ run_list (w_with (may_read 1 0 ∷ may_read 1 0 ∷ []) revoking (program 0 7 ∷ [])) (shows 27 5 11 8 (changed 4 1 0 ∷ []))
    -- the same of write rights: five sequences, grant, two puts of 4, revoke, and two puts of 4
    ∷ run_list (w_with (may_write 0 0 ∷ []) writing_more (program 0 12 ∷ [])) (shows 24 6 23 16 (changed 3 0 1 ∷ changed 5 0 1 ∷ []))
    -- no write right: put and three constants
    ∷ run_list (w_with w_rights (put 0 1 0 1 ∷ []) (program 0 4 ∷ [])) (shows 24 4 4 0 [])
    -- a write right granted and revoked: 9, 8, 7, grant, put 4, revoke, put 4
    ∷ run_list (w_with [] writing (program 0 9 ∷ [])) (shows 24 5 13 16 (changed 3 0 0 ∷ changed 5 0 0 ∷ []))
    -- key 8, and no write right either
    ∷ run_list (w_with w_rights (constant (pos 8) ∷ put 0 4 0 1 ∷ []) (program 0 5 ∷ [])) (shows 23 5 4 0 [])
    -- a grant by user 1
    ∷ run_list (w_with w_rights (grant_read 1 1 ∷ []) (program 1 4 ∷ [])) (shows 28 4 1 0 [])
    -- a grant in a context that user 0 may read and that is not public: if, query and grant
    ∷ run_list (w_with (may_read 0 1 ∷ []) in_secret (program 0 7 ∷ [])) (shows 29 5 10 0 [])
    -- and in one that is public
    ∷ run_list (w_with (public 1 ∷ []) in_secret (program 0 7 ∷ [])) (shows 0 0 10 8 (changed 2 1 1 ∷ []))
    -- a put in a context that the cell's label does not hold: if, query, put and three constants
    ∷ run_list (w_with (may_write 0 0 ∷ []) in_secret (program 0 9 ∷ [])) (shows 26 8 13 0 [])
    -- an out in a context that the user may not read: if, query, out and constant
    ∷ run_list (w_with w_rights telling (program 0 7 ∷ [])) (shows 27 5 11 0 [])
    -- a while's body is in the context of its test: while, query, assignment and constant
    ∷ run_list (w_with w_rights telling (program 0 9 ∷ [])) (shows 25 8 11 0 [])
    -- absent cells count in a query's label: out and query
    ∷ run_list (w_with w_rights all_absent (program 0 6 ∷ [])) (shows 27 6 9 0 [])
    -- a cleared cell's label is empty, though it was absent: 7, clear and two constants, out and query
    ∷ run_list (w_with (may_write 0 0 ∷ []) clearing (program 0 7 ∷ [])) (shows 0 0 13 8 (told 0 ∷ []))
    -- each program has variables of its own: assignment and constant, out and variable
    ∷ run_list (w_with w_rights one_each (program 0 4 ∷ program 0 6 ∷ [])) (shows 0 0 4 8 (told 0 ∷ []))
    -- a program's context is empty, also where something is public: assignment and constant
    ∷ run_list (w_with (public 0 ∷ []) one_each (program 0 4 ∷ [])) (shows 0 0 2 0 [])
    -- a trigger copies a put with its own user's rights: 10, put and three constants, the copy's 4, out and query
    ∷ run_list (posting [] posted 10 (trigger 0 1 3 6 ∷ [])) (shows 0 0 18 8 (told 2 ∷ []))
    -- where its user may not write table 1, it stops on the copy
    ∷ run_list (posting [] posted 10 (trigger 0 1 0 6 ∷ [])) (shows 24 6 9 0 [])
    -- the copy has the amount's label: user 1 may read table 1 and not what was copied; the amount's query costs 8
    ∷ run_list (posting (may_read 1 1 ∷ []) posted_secret 11 (trigger 0 1 3 6 ∷ [])) (shows 27 10 25 0 [])
    -- the key's label is in the trigger's context: put, query, two constants, and the copy's 4
    ∷ run_list (posting [] keyed 8 (trigger 0 1 3 6 ∷ [])) (shows 26 6 15 0 [])
    -- and in the label of each of its variables: assignment and constant in place of the copy
    ∷ run_list (posting [] keyed 8 (trigger 0 1 3 9 ∷ [])) (shows 0 0 13 0 [])
    -- two triggers run by number: 12, put and three constants, twice 4, out and query
    ∷ run_list (posting [] in_turn 12 (trigger 0 1 3 7 ∷ trigger 0 1 3 8 ∷ [])) (shows 0 0 22 8 (told 2 ∷ []))
    -- a trigger has the amount of the write that fired it, also where an earlier trigger has overwritten the cell: 14, 13, put and three
    -- constants, body 7 and twice the copy, each 4, and two outs with queries
    ∷ run_list (posting (may_read 1 0 ∷ []) overwritten 14 (trigger 0 1 0 7 ∷ trigger 0 1 3 6 ∷ [])) (shows 0 0 36 16 (told 2 ∷ told 1 ∷ []))
    -- trigger 0's write fires trigger 1, and trigger 1's write does not fire trigger 0: 11, three puts of 4, out and query; the budget
    -- is just enough
    ∷ record {
      of = posting (may_read 1 0 ∷ []) back_and_forth 11 (trigger 0 1 3 6 ∷ trigger 1 1 0 8 ∷ []);
      budget = 22;
      trace = 4096;
      shows = shows 0 0 22 8 (told 4 ∷ []);
    }
    -- the clear of an absent cell fires: 12, clear and two constants, put, two variables and a sum of two, out and query
    ∷ run_list (posting [] cleared 12 (trigger 0 2 3 8 ∷ [])) (shows 0 0 19 8 (told 1 ∷ []))
    ∷ []

abbrev pub Examples : Type 0
Examples = Shows (ran true) examples

-- the run with no labels omits tests 25, 26, 27 and 29 and is otherwise the same
unfoldable pub unlabelled : List (Row Book)
unlabelled =
    -- 27: W tells user 1 the sum of both owners
    run_list (w_with w_rights w_nodes (program 0 8 ∷ [])) (shows 0 0 19 16 (told 250 ∷ told_1150 ∷ []))
    -- 25: the fresh variable of the marked cases
    ∷ run_list (w_with w_rights branching (program 0 7 ∷ [])) (shows 0 0 11 0 [])
    -- 29 and 26: in a context that is not public, and that the cell's label does not hold
    ∷ run_list (w_with [] in_secret (program 0 7 ∷ [])) (shows 0 0 10 8 (changed 2 1 1 ∷ []))
    ∷ run_list (w_with (may_write 0 0 ∷ []) in_secret (program 0 9 ∷ [])) (shows 0 0 13 0 [])
    -- 21 to 24, 28, 30 and 31 are tested all the same
    ∷ record { of = w_with w_rights w_nodes (program 0 8 ∷ []); budget = 18; trace = 4096; shows = shows 21 3 18 8 (told 250 ∷ []) }
    ∷ run_list (w_with w_rights beyond (program 0 6 ∷ [])) (shows 22 5 4 0 [])
    ∷ run_list (w_with w_rights (constant (pos 8) ∷ put 0 4 0 1 ∷ []) (program 0 5 ∷ [])) (shows 23 5 4 0 [])
    ∷ run_list (w_with w_rights (put 0 1 0 1 ∷ []) (program 0 4 ∷ [])) (shows 24 4 4 0 [])
    ∷ run_list (w_with w_rights (grant_read 1 1 ∷ []) (program 1 4 ∷ [])) (shows 28 4 1 0 [])
    ∷ record { of = w_with w_rights w_nodes (program 0 8 ∷ []); budget = 100000; trace = 15; shows = shows 30 7 19 8 (told 250 ∷ []) }
    ∷ run_list (w_with w_rights nothing (program 0 5 ∷ [])) (shows 31 4 9 0 [])
    ∷ run_list (w_with w_rights nothing (program 0 7 ∷ [])) (shows 31 6 9 0 [])
    -- triggers run, and each program's variables start at 0
    ∷ run_list (posting [] posted 10 (trigger 0 1 3 6 ∷ [])) (shows 0 0 18 8 (told 2 ∷ []))
    ∷ run_list (w_with w_rights one_each (program 0 4 ∷ program 0 6 ∷ [])) (shows 0 0 4 8 (told 0 ∷ []))
    ∷ []

abbrev pub Unlabelled : Type 0
Unlabelled = Shows (ran false) unlabelled

-- ---- postings that fail: a stop inside a trigger's body takes back the program's own put or clear that began it, and nothing else

-- User 0 may write tables 0 to 2, and cell (n,1,0) of table n holds 5 + n.
-- 4 and 9 put 2 and 1 at (0,1,0), and 5 clears it; 6 puts 2 at (1,1,0), and 7 clears it; 8 puts 2 at (1,1,1), which is absent; 10 puts 2 at
-- (2,1,0). 11 stops with 23 at owner 8, and so do 12 to 14, 16 and 17 after a write or two. 20 puts 2 at (1,1,0), but stops as 17 if it is 2.
abbrev pub fallible : List NodeRecord
fallible =
    constant (pos 0) ∷ constant (pos 1) ∷ constant (pos 2) ∷ constant (pos 8)
    ∷ put 0 1 0 2 ∷ clear 0 1 0 ∷ put 1 1 0 2 ∷ clear 1 1 0 ∷ put 1 1 1 2 ∷ put 0 1 0 1 ∷ put 2 1 0 2 ∷ put 0 3 0 1
    ∷ both 6 11 ∷ both 9 11 ∷ both 10 11 ∷ both 8 7 ∷ both 15 11 ∷ both 7 11
    ∷ sum 1 1 1 0 0 ∷ equals 18 2 ∷ if 19 17 6 ∷ []

-- with further nodes from 21 on, these programs and these triggers
abbrev pub failing : List NodeRecord → List ProgramRecord → List TriggerRecord → Book
failing nodes programs triggers =
    record {
      cells = cell 0 1 0 (pos 5) ∷ cell 1 1 0 (pos 6) ∷ cell 2 1 0 (pos 7) ∷ [];
      regions = table_region 0 ∷ table_region 1 ∷ table_region 2 ∷ [];
      rights = may_write 0 0 ∷ may_write 0 1 ∷ may_write 0 2 ∷ [];
      nodes = fallible ++ nodes;
      programs = programs;
      triggers = triggers;
      labels = [];
    }

-- places of tables 0 to 2
abbrev pub within_three : ℕ → ℕ → ℕ → Label
within_three a b c = a ∷ b ∷ c ∷ 0 ∷ 0 ∷ 0 ∷ 0 ∷ 0 ∷ []

-- cells (0,1,0), (1,1,0), (1,1,1) and (2,1,0) at the start, each labelled with its own place
abbrev pub start_0 : Lab Cell
start_0 = record { val = held (pos 5); lab = within_three 256 0 0 }

abbrev pub start_1 : Lab Cell
start_1 = record { val = held (pos 6); lab = within_three 0 256 0 }

abbrev pub start_1_1 : Lab Cell
start_1_1 = record { val = absent; lab = within_three 0 512 0 }

abbrev pub start_2 : Lab Cell
start_2 = record { val = held (pos 7); lab = within_three 0 0 256 }

-- a constant that was put there, and a cell that was cleared: their labels are empty
abbrev pub now_2 : Lab Cell
now_2 = lit (held (pos 2))

abbrev pub now_absent : Lab Cell
now_absent = lit absent

-- a row that says what is left in these four
abbrev pub leaves : Row Book → List (Lab Cell) → Leaving
leaves row cells = record { row = row; places = 8 ∷ 72 ∷ 73 ∷ 136 ∷ []; cells = cells }

abbrev pub untouched : List (Lab Cell)
untouched = start_0 ∷ start_1 ∷ start_1_1 ∷ start_2 ∷ []

-- the program that puts 2 at (0,1,0), with these triggers; the put and its three constants cost 4
abbrev pub put_fires : List TriggerRecord → Shown → Leaving
put_fires triggers shown = leaves (run_list (failing [] (program 0 4 ∷ []) triggers) shown) untouched

unfoldable pub failures : List Leaving
failures =
    -- no stop: the put, the put and the clear of its trigger stay; 4, and 15 with a put of 4 and a clear of 3
    leaves (run_list (failing [] (program 0 4 ∷ []) (trigger 0 1 0 15 ∷ [])) (shows 0 0 12 0 [])) (now_2 ∷ now_absent ∷ now_2 ∷ start_2 ∷ [])
    -- a stop in the first trigger, which has written (1,1,0): 4, and 12 with twice 4
    ∷ put_fires (trigger 0 1 0 12 ∷ []) (shows 23 11 13 0 [])
    -- in the second, after the first is done: three times 4
    ∷ put_fires (trigger 0 1 0 6 ∷ trigger 0 1 0 11 ∷ []) (shows 23 11 12 0 [])
    -- in a trigger that a trigger's write has fired, which has written (2,1,0): 4, 4, and 14 with twice 4
    ∷ put_fires (trigger 0 1 0 6 ∷ trigger 1 1 0 14 ∷ []) (shows 23 11 17 0 [])
    -- in the first, after the trigger that its write has fired is done: 4, 12, 4, the other's 4, and 4
    ∷ put_fires (trigger 0 1 0 12 ∷ trigger 1 1 0 10 ∷ []) (shows 23 11 17 0 [])
    -- after a trigger has written the program's own cell again: what was there before the put comes back
    ∷ put_fires (trigger 0 1 0 13 ∷ []) (shows 23 11 13 0 [])
    -- after the put of an absent cell and the clear of another: 4, 16, 15, 4, 3, and 4
    ∷ put_fires (trigger 0 1 0 16 ∷ []) (shows 23 11 17 0 [])
    -- by 24: user 3 may not write table 1
    ∷ put_fires (trigger 0 1 3 6 ∷ []) (shows 24 6 8 0 [])
    -- by 31: in 23 first 6 writes (1,1,0), and then 22 would put 21 there, the smallest of owner 2's line 0, which is absent: 4, 23, 4, and 22 with 10
    ∷ leaves (run_list (failing (smallest 0 2 2 0 0 ∷ put 1 1 0 21 ∷ both 6 22 ∷ []) (program 0 4 ∷ []) (trigger 0 1 0 23 ∷ [])) (shows 31 21 20 0 [])) untouched
    -- by 21 on the body's root, and on a node below, after (1,1,0) is written
    ∷ leaves (record { of = failing [] (program 0 4 ∷ []) (trigger 0 1 0 6 ∷ []); budget = 4; trace = 4096; shows = shows 21 6 4 0 [] }) untouched
    ∷ leaves (record { of = failing [] (program 0 4 ∷ []) (trigger 0 1 0 12 ∷ []); budget = 10; trace = 4096; shows = shows 21 3 10 0 [] }) untouched
    -- the program's own clear: 3, and 12 with twice 4
    ∷ leaves (run_list (failing [] (program 0 5 ∷ []) (trigger 0 2 0 12 ∷ [])) (shows 23 11 12 0 [])) untouched
    -- of two postings the second fails: the first stays, with what its trigger wrote; 21, 4, the trigger's 4, 4, and 12 with twice 4
    ∷ leaves (run_list (failing (both 10 4 ∷ []) (program 0 21 ∷ []) (trigger 2 1 0 8 ∷ trigger 0 1 0 12 ∷ [])) (shows 23 11 22 0 []))
    (start_0 ∷ start_1 ∷ now_2 ∷ now_2 ∷ [])
    -- and where both write the same cells, they are as the first left them; 21, clear of 3, the trigger's 4, 4, and 17 with 3 and 4
    ∷ leaves (run_list (failing (both 5 4 ∷ []) (program 0 21 ∷ []) (trigger 0 2 0 6 ∷ trigger 0 1 0 17 ∷ [])) (shows 23 11 20 0 []))
    (now_absent ∷ now_2 ∷ start_1_1 ∷ start_2 ∷ [])
    -- or the second program's
    ∷ leaves (run_list (failing [] (program 0 10 ∷ program 0 4 ∷ []) (trigger 0 1 0 12 ∷ [])) (shows 23 11 17 0 []))
    (start_0 ∷ start_1 ∷ start_1_1 ∷ now_2 ∷ [])
    -- inside an if: its 2, 4, and 12 with twice 4
    ∷ leaves (run_list (failing (skip ∷ if 1 4 21 ∷ []) (program 0 22 ∷ []) (trigger 0 1 0 12 ∷ [])) (shows 23 11 15 0 [])) untouched
    -- inside a while, on the second turn, whose clear of (1,1,0) is taken back: each turn's 2 and 4, and the test's 11; then 4, or 17 with 3 and 4.
    -- What the first turn put there has the label of that test, which is the cell's own
    ∷ leaves (run_list (failing (while 1 4 ∷ []) (program 0 21 ∷ []) (trigger 0 1 0 20 ∷ [])) (shows 23 11 46 0 []))
    (now_2 ∷ record { val = held (pos 2); lab = within_three 0 256 0 } ∷ start_1_1 ∷ start_2 ∷ [])
    -- a stop of the program itself, after its posting is done, takes nothing back: 21 and three times 4
    ∷ leaves (run_list (failing (both 4 11 ∷ []) (program 0 21 ∷ []) (trigger 0 1 0 6 ∷ [])) (shows 23 11 13 0 []))
    (now_2 ∷ now_2 ∷ start_1_1 ∷ start_2 ∷ [])
    -- what was told stays told: 22, the out's 2, 4, and 12 with twice 4
    ∷ leaves (run_list (failing (out 1 1 ∷ both 21 4 ∷ []) (program 0 22 ∷ []) (trigger 0 1 0 12 ∷ [])) (shows 23 11 16 8 (told 1 ∷ []))) untouched
    ∷ []

-- with labels and with none
abbrev pub Failures : Type 0
Failures = (labels : Bool) → Leaves labels failures
