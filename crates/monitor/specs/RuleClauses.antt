-- What each rule gives, at its limits: the clauses of Rules.antt one by one, with stand-ins for a node's children.
use Rattle.std.specs.Prelude.{◌≡◌, List, [], ◌∷◌, map, Bool, true, false, not, cond, ℕ, ◌+◌, ◌%◌, ◌^◌, eqb, ℤ, pos, negsuc, replicate, Some, None}
use Rattle.book.specs.Records.{NodeRecord}
use Rattle.book.specs.Tables.{trigger}
use Rattle.monitor.specs.Labelled.{Lab, lit}
use Rattle.monitor.specs.Run.{Cell, held, absent, State, said, changed, Out, done, M, next, plainly, need, update, with_cells}
use Rattle.monitor.specs.Rules
use Rattle.monitor.specs.Syntax as syntax
use Rattle.monitor.specs.Samples.{went, halted, ending, final, counts, labelled, eight, key_of, sample_cells, sample, having, small_book, giving, running, here, office}
use Rattle.monitor.specs.RunClauses.{sets}

-- ---- values for the clauses

-- owners 1 to 2, lines 3 to 5
abbrev pub middle : Rules.Box
middle = record { owners = record { first = pos 1; last = pos 2 }; lines = record { first = pos 3; last = pos 5 } }

-- from before the first to after the last
abbrev pub beyond_all : Rules.Box
beyond_all = record { owners = record { first = negsuc 0; last = pos 9 }; lines = record { first = negsuc 8; last = pos 8 } }

-- owners from 2 to 1, and lines from 2 to 1
abbrev pub crossed : Rules.Box
crossed = record { owners = record { first = pos 2; last = pos 1 }; lines = record { first = pos 0; last = pos 7 } }

abbrev pub crossed_lines : Rules.Box
crossed_lines = record { owners = record { first = pos 0; last = pos 7 }; lines = record { first = pos 2; last = pos 1 } }

-- table 1's last cell, and its first
abbrev pub last_cell : Rules.Box
last_cell = record { owners = record { first = pos 7; last = pos 7 }; lines = record { first = pos 7; last = pos 7 } }

abbrev pub first_cell : Rules.Box
first_cell = record { owners = record { first = pos 0; last = pos 0 }; lines = record { first = pos 0; last = pos 0 } }

-- node 5 gives z, and every other node 1
abbrev pub largest_or_one : ℤ → ℕ → M (Lab ℤ)
largest_or_one z n = λ s. done [] (labelled (cond (eqb n 5) z (pos 1)) 1) s

-- each cell holds the largest amount
abbrev pub full : State
full = with_cells (λ q. labelled (held (pos 2147483647)) 1) sample

-- no cell is present; cell q has its own place for its label
abbrev pub none_present : State
none_present = with_cells (λ q. labelled absent (2 ^ q)) sample

-- smallest and largest stand in the middle
abbrev pub some_cells : List Cell
some_cells = held (pos 3) ∷ absent ∷ held (pos 9) ∷ held (negsuc 4) ∷ held (pos 4) ∷ []

-- a command on node 9, with stand-ins for its children, with labels and without
abbrev pub does : Rules.Env → syntax.Cmd → State → Out (Unit {0})
does e c = Rules.command small_book Rules.monitored giving running e 9 c

abbrev pub does_unlabelled : Rules.Env → syntax.Cmd → State → Out (Unit {0})
does_unlabelled e c = Rules.command small_book (record { labels = false; undoes = true }) giving running e 9 c

-- the modes: the entry's run, the rule before Change 2, and the run with no labels
abbrev pub modes : List Rules.Mode
modes = Rules.monitored ∷ Rules.standing ∷ record { labels = false; undoes = true } ∷ []

-- a program's own command, whose writes fire all triggers
abbrev pub in_program : ℕ → ℕ → Rules.Env
in_program word user = record { ctx = word ∷ []; user = user; above = 0 }

abbrev pub own_command : Rules.Env
own_command = in_program 16 3

-- a body writes its number at cells 6 and 10, clears the cell of its number, and tells as `running` does; where f holds, it then stops
abbrev pub posting_body : (ℕ → Bool) → Rules.Env → ℕ → M (Unit {0})
posting_body f e n = λ s.
    next (running e n (with_cells (update (update (update s.cells 6 (labelled (held (pos n)) 1)) 10 (labelled (held (pos n)) 1)) n (labelled absent 1)) s))
    (λ a. need (record { passes = not (f n); compared = sets 8 2 }) 25 n)

-- a command with such bodies: all but 40 stop, or none does
abbrev pub failing : Rules.Env → syntax.Cmd → Rules.Mode → Out (Unit {0})
failing e c mode = Rules.command small_book mode giving (posting_body (λ n. not (eqb n 40))) e 9 c sample

abbrev pub passing : Rules.Env → syntax.Cmd → Rules.Mode → Out (Unit {0})
passing e c mode = Rules.command small_book mode giving (posting_body (λ n. false)) e 9 c sample

-- a command whose second child stops with 22
abbrev pub key_stops : syntax.Cmd → Out (Unit {0})
key_stops c = Rules.command small_book Rules.monitored (λ n s. next (need (plainly (not (eqb n 2))) 22 n s) (λ a. giving n)) running own_command 9 c sample

-- the cells of these places as a command left them
abbrev pub left_at : List ℕ → Out (Unit {0}) → List (Lab Cell)
left_at places o = map (final o).cells places

-- in another context, by another user
abbrev pub in_context : ℕ → ℕ → Rules.Env
in_context word user = record { ctx = word ∷ []; user = user; above = 1 }

-- a body that tells variables 0 to 3
abbrev pub reading : Rules.Env → ℕ → M (Unit {0})
reading e n = λ s. done (said n (s.vars 0).val ∷ said n (s.vars 1).val ∷ said n (s.vars 2).val ∷ said n (s.vars 3).val ∷ []) tt s

-- trigger n, where 9 was put at owner 1, line 2, in the context of place 4
abbrev pub triggered : ℕ → Out (Unit {0})
triggered n = Rules.trigger_run small_book true running here 1 10 (key_of (pos 1) (pos 2)) (labelled (held (pos 9)) 8) n sample

-- a node of this kind, its fields told apart
abbrev pub node_of : ℕ → NodeRecord
node_of kind = record { kind = kind; p = 1; a = 2; b = 3; c = 4; d = 5; k = pos 6; zeros = 7 }

pub record RuleClauses : Type 0 where
  -- ---- the kinds of node: p, a, b, c, d and k are 1 to 6
  pub expressions_of : map (λ kind. syntax.exp_of (node_of kind)) (1 ∷ 2 ∷ 3 ∷ 4 ∷ 5 ∷ 6 ∷ 8 ∷ 9 ∷ 10 ∷ 11 ∷ [])
      ≡ syntax.const (pos 6) ∷ syntax.var 1 ∷ syntax.add 2 3 ∷ syntax.minus 2 3 ∷ syntax.equal 2 3 ∷ syntax.less 2 3
      ∷ syntax.query 8 1 2 3 4 5 ∷ syntax.query 9 1 2 3 4 5 ∷ syntax.query 10 1 2 3 4 5 ∷ syntax.query 11 1 2 3 4 5 ∷ []
  pub commands_of : map (λ kind. syntax.cmd_of (node_of kind)) (16 ∷ 17 ∷ 18 ∷ 19 ∷ 20 ∷ 21 ∷ 22 ∷ 23 ∷ 24 ∷ 25 ∷ 26 ∷ [])
      ≡ syntax.skip ∷ syntax.assign 1 2 ∷ syntax.seq 2 3 ∷ syntax.branch 2 3 4 ∷ syntax.while 2 3 ∷ syntax.put 1 2 3 4 ∷ syntax.clear 1 2 3
      ∷ syntax.out 1 2 ∷ syntax.grant 1 2 3 ∷ syntax.revoke 1 2 3 ∷ syntax.raise 1 2 ∷ []
  -- ---- expressions
  -- signed 32 bits
  pub limits : map Rules.fits_32 (pos 2147483647 ∷ pos 2147483648 ∷ negsuc 2147483647 ∷ negsuc 2147483648 ∷ []) ≡ true ∷ false ∷ true ∷ false ∷ []
  -- 1 or 0
  pub same_numbers : map (Rules.equals (pos 1)) (pos 0 ∷ pos 1 ∷ pos 2 ∷ negsuc 0 ∷ []) ≡ pos 0 ∷ pos 1 ∷ pos 0 ∷ pos 0 ∷ []
  pub lesser_numbers : map (Rules.less_than (negsuc 1)) (negsuc 2 ∷ negsuc 1 ∷ negsuc 0 ∷ pos 2 ∷ []) ≡ pos 0 ∷ pos 0 ∷ pos 1 ∷ pos 1 ∷ []
  -- a key is owner and line, with both labels; a box is owners a to b and lines c to d, with all four
  pub keys : Rules.key (labelled (pos 1) 1) (labelled (pos 2) 2) ≡ labelled (key_of (pos 1) (pos 2)) 3
  pub boxes : Rules.box_of (labelled (pos 1) 1) (labelled (pos 2) 2) (labelled (pos 3) 4) (labelled (pos 5) 8) ≡ labelled middle 15
  -- owner 1 line 3 and owner 2 line 5 are the corners of the box; then one past each side
  pub corners : map (Rules.in_box middle) (11 ∷ 21 ∷ 3 ∷ 27 ∷ 10 ∷ 14 ∷ []) ≡ true ∷ true ∷ false ∷ false ∷ false ∷ false ∷ []
  pub outside_bounds : map (Rules.in_box beyond_all) (0 ∷ 63 ∷ []) ≡ true ∷ true ∷ []
  pub crossed_bounds : map (λ x. Rules.in_box x 10) (crossed ∷ crossed_lines ∷ []) ≡ false ∷ false ∷ []
  -- four places from 4 on: all cells with all labels, present or absent, places rising; and the odd ones of four places from 5 on
  pub gathered : Rules.gather sample_cells (λ q. true) 4 4 ≡ record { val = held (pos 4) ∷ held (pos 5) ∷ absent ∷ held (pos 7) ∷ []; lab = eight 240 }
  pub gathered_odd : Rules.gather sample_cells (λ q. eqb (q % 2) 1) 5 4 ≡ record { val = held (pos 5) ∷ held (pos 7) ∷ []; lab = eight 160 }
  -- table 1 is places 64 to 127; the label of the bounds counts too
  pub seen_last : Rules.seen 1 (labelled last_cell 1) sample ≡ record { val = held (pos 127) ∷ []; lab = eight (1 + 2 ^ 127) }
  pub seen_first : Rules.seen 1 (labelled first_cell 2) sample ≡ record { val = held (pos 64) ∷ []; lab = eight (2 + 2 ^ 64) }
  -- count, sum, smallest, largest of the present cells; of absent cells, and of none at all
  pub aggregates : map (λ kind. Rules.aggregate kind some_cells) (8 ∷ 9 ∷ 10 ∷ 11 ∷ []) ≡ Some (pos 4) ∷ Some (pos 11) ∷ Some (negsuc 4) ∷ Some (pos 9) ∷ []
  pub of_absent : map (λ kind. Rules.aggregate kind (absent ∷ absent ∷ [])) (8 ∷ 9 ∷ 10 ∷ 11 ∷ []) ≡ Some (pos 0) ∷ Some (pos 0) ∷ None ∷ None ∷ []
  pub of_no_cells : map (λ kind. Rules.aggregate kind []) (8 ∷ 9 ∷ 10 ∷ 11 ∷ []) ≡ Some (pos 0) ∷ Some (pos 0) ∷ None ∷ None ∷ []
  -- one present cell is enough: with 0, and with the smallest and the largest amount
  pub of_zero : map (λ kind. Rules.aggregate kind (absent ∷ held (pos 0) ∷ absent ∷ [])) (8 ∷ 9 ∷ 10 ∷ 11 ∷ []) ≡ Some (pos 1) ∷ Some (pos 0) ∷ Some (pos 0) ∷ Some (pos 0) ∷ []
  pub of_lowest : map (λ kind. Rules.aggregate kind (absent ∷ held (negsuc 2147483647) ∷ [])) (10 ∷ 11 ∷ []) ≡ Some (negsuc 2147483647) ∷ Some (negsuc 2147483647) ∷ []
  pub of_highest : map (λ kind. Rules.aggregate kind (held (pos 2147483647) ∷ absent ∷ [])) (10 ∷ 11 ∷ []) ≡ Some (pos 2147483647) ∷ Some (pos 2147483647) ∷ []
  -- smallest and largest of amounts on one side of 0
  pub smallest_above : map (λ kind. Rules.aggregate kind (held (pos 9) ∷ held (pos 3) ∷ [])) (10 ∷ 11 ∷ []) ≡ Some (pos 3) ∷ Some (pos 9) ∷ []
  pub largest_below : map (λ kind. Rules.aggregate kind (held (negsuc 9) ∷ held (negsuc 3) ∷ [])) (10 ∷ 11 ∷ []) ≡ Some (negsuc 9) ∷ Some (negsuc 3) ∷ []
  -- 22
  pub in_range : ending (Rules.ranged 9 (labelled (pos 5) 1) sample) ≡ went [] (labelled (pos 5) 1)
  pub out_of_range : ending (Rules.ranged 9 (labelled (pos 2147483648) 1) sample) ≡ halted [] 22 9 (eight 0) (eight 0)
  -- what a query found: 22 of an amount, 31 of nothing
  pub found : map (λ amount. ending (Rules.found 9 (1 ∷ []) amount sample)) (Some (pos 5) ∷ Some (pos 2147483648) ∷ None ∷ [])
      ≡ went [] (labelled (pos 5) 1) ∷ halted [] 22 9 (eight 0) (eight 0) ∷ halted [] 31 9 (eight 0) (eight 0) ∷ []
  -- each expression: its children in order, each in the state that the one before left; its value; its label
  pub constants : ending (Rules.expr giving 9 (syntax.const (negsuc 4)) sample) ≡ went [] (lit (negsuc 4))
  pub variables : ending (Rules.expr giving 9 (syntax.var 3) sample) ≡ went [] (labelled (pos 13) 24)
  pub sums : ending (Rules.expr giving 9 (syntax.add 5 3) sample) ≡ went (said 5 (pos 100) ∷ said 3 (pos 99) ∷ []) (labelled (pos 8) 40)
  pub differences : ending (Rules.expr giving 9 (syntax.minus 5 3) sample) ≡ went (said 5 (pos 100) ∷ said 3 (pos 99) ∷ []) (labelled (pos 2) 40)
  pub equalities : ending (Rules.expr giving 9 (syntax.equal 5 3) sample) ≡ went (said 5 (pos 100) ∷ said 3 (pos 99) ∷ []) (labelled (pos 0) 40)
  pub comparisons : ending (Rules.expr giving 9 (syntax.less 3 5) sample) ≡ went (said 3 (pos 100) ∷ said 5 (pos 99) ∷ []) (labelled (pos 1) 40)
  -- the sum of table 1's cells 75, 76, 77, 83, 84 and 85, after its four bounds
  pub queries : ending (Rules.expr giving 9 (syntax.query 9 1 1 2 3 5) sample)
      ≡ went (said 1 (pos 100) ∷ said 2 (pos 99) ∷ said 3 (pos 98) ∷ said 5 (pos 97) ∷ [])
      (record { val = pos 480; lab = eight (46 + 2 ^ 75 + 2 ^ 76 + 2 ^ 77 + 2 ^ 83 + 2 ^ 84 + 2 ^ 85) })
  -- how many they are
  pub queries_count : ending (Rules.expr giving 9 (syntax.query 8 1 1 2 3 5) (having 4 0))
      ≡ went (said 1 (pos 4) ∷ said 2 (pos 3) ∷ said 3 (pos 2) ∷ said 5 (pos 1) ∷ [])
      (record { val = pos 6; lab = eight (46 + 2 ^ 75 + 2 ^ 76 + 2 ^ 77 + 2 ^ 83 + 2 ^ 84 + 2 ^ 85) })
  -- smallest and largest of the same cells
  pub queries_best : map (λ kind. ending (Rules.expr giving 9 (syntax.query kind 1 1 2 3 5) sample)) (10 ∷ 11 ∷ [])
      ≡ map (λ z. went (said 1 (pos 100) ∷ said 2 (pos 99) ∷ said 3 (pos 98) ∷ said 5 (pos 97) ∷ [])
      (record { val = z; lab = eight (46 + 2 ^ 75 + 2 ^ 76 + 2 ^ 77 + 2 ^ 83 + 2 ^ 84 + 2 ^ 85) })) (pos 75 ∷ pos 85 ∷ [])
  -- 31 for these two, after the four bounds: of owners 2 to 1, of owners 8 to 9, and of absent cells; the cost of the bounds stays
  pub queries_of_nothing : map (λ kind. ending (Rules.expr giving 9 (syntax.query kind 1 2 1 3 5) sample)) (10 ∷ 11 ∷ [])
      ≡ replicate 2 (halted (said 2 (pos 100) ∷ said 1 (pos 99) ∷ said 3 (pos 98) ∷ said 5 (pos 97) ∷ []) 31 9 (eight 0) (eight 0))
  pub queries_outside : map (λ kind. ending (Rules.expr giving 9 (syntax.query kind 1 8 9 3 5) sample)) (10 ∷ 11 ∷ [])
      ≡ replicate 2 (halted (said 8 (pos 100) ∷ said 9 (pos 99) ∷ said 3 (pos 98) ∷ said 5 (pos 97) ∷ []) 31 9 (eight 0) (eight 0))
  pub queries_of_absent : map (λ kind. ending (Rules.expr giving 9 (syntax.query kind 0 0 0 3 5) none_present)) (10 ∷ 11 ∷ [])
      ≡ replicate 2 (halted (said 0 (pos 100) ∷ said 0 (pos 99) ∷ said 3 (pos 98) ∷ said 5 (pos 97) ∷ []) 31 9 (eight 0) (eight 0))
  pub queries_of_nothing_left : map (λ kind. counts (final (Rules.expr giving 9 (syntax.query kind 1 2 1 3 5) sample))) (10 ∷ 11 ∷ []) ≡ replicate 2 (96 ∷ 5 ∷ [])
  -- count and sum are 0 there, with the labels of the bounds, and of absent cells 3, 4 and 5
  pub queries_none : map (λ kind. ending (Rules.expr giving 9 (syntax.query kind 1 2 1 3 5) sample)) (8 ∷ 9 ∷ [])
      ≡ replicate 2 (went (said 2 (pos 100) ∷ said 1 (pos 99) ∷ said 3 (pos 98) ∷ said 5 (pos 97) ∷ []) (record { val = pos 0; lab = eight 46 }))
  pub queries_none_present : map (λ kind. ending (Rules.expr giving 9 (syntax.query kind 0 0 0 3 5) none_present)) (8 ∷ 9 ∷ [])
      ≡ replicate 2 (went (said 0 (pos 100) ∷ said 0 (pos 99) ∷ said 3 (pos 98) ∷ said 5 (pos 97) ∷ []) (record { val = pos 0; lab = eight 57 }))
  -- 22 for each: 2147483647 + 1, -2147483648 - 1, and a sum of six cells
  pub sums_in_range : ending (Rules.expr (largest_or_one (pos 2147483647)) 9 (syntax.add 5 3) sample) ≡ halted [] 22 9 (eight 0) (eight 0)
  pub differences_in_range : ending (Rules.expr (largest_or_one (negsuc 2147483647)) 9 (syntax.minus 5 3) sample) ≡ halted [] 22 9 (eight 0) (eight 0)
  pub queries_in_range : ending (Rules.expr giving 9 (syntax.query 9 1 1 2 3 5) full)
      ≡ halted (said 1 (pos 100) ∷ said 2 (pos 99) ∷ said 3 (pos 98) ∷ said 5 (pos 97) ∷ []) 22 9 (eight 0) (eight 0)
  -- ---- contexts, keys and places
  pub inside_gains : Rules.within_label here (labelled (pos 5) 32) ≡ record { ctx = 48 ∷ []; user = 3; above = 1 }
  pub chosen : map (λ z. ending (Rules.choose z (running here 1) (running here 2) sample)) (pos 0 ∷ pos 1 ∷ negsuc 0 ∷ [])
      ≡ went (changed 16 3 1 ∷ said 2 (pos 100) ∷ []) tt ∷ went (changed 16 3 1 ∷ said 1 (pos 100) ∷ []) tt ∷ went (changed 16 3 1 ∷ said 1 (pos 100) ∷ []) tt ∷ []
  pub places : map (Rules.key_place 3) (key_of (pos 1) (pos 2) ∷ key_of (pos 7) (pos 0) ∷ []) ≡ 202 ∷ 248 ∷ []
  pub keys_in_table : map Rules.in_table
      (key_of (pos 0) (pos 0) ∷ key_of (pos 7) (pos 7) ∷ key_of (negsuc 0) (pos 0) ∷ key_of (pos 8) (pos 0) ∷ key_of (pos 0) (negsuc 0) ∷ key_of (pos 0) (pos 8) ∷ [])
      ≡ true ∷ true ∷ false ∷ false ∷ false ∷ false ∷ []
  -- ---- the write of a cell: 23, 24 and 26 in this order, on its node; then the cell, with context and amount for its label
  pub posted : (final (Rules.posting true 9 (6 ∷ []) 3 0 (key_of (pos 1) (pos 2)) (labelled (held (pos 5)) 8) sample)).cells 10 ≡ labelled (held (pos 5)) 14
  pub posted_there : map (final (Rules.posting true 9 (6 ∷ []) 5 1 (key_of (pos 1) (pos 2)) (labelled (held (pos 5)) 8) sample)).cells (10 ∷ 74 ∷ [])
      ≡ labelled (held (pos 10)) 1046 ∷ labelled (held (pos 5)) 14 ∷ []
  pub no_key : ending (Rules.posting true 9 (32 ∷ []) 4 0 (key_of (pos 8) (pos 2)) (labelled (held (pos 5)) 8) sample) ≡ halted [] 23 9 (eight 0) (eight 0)
  pub no_right : ending (Rules.posting true 9 (32 ∷ []) 4 0 (key_of (pos 1) (pos 2)) (labelled (held (pos 5)) 8) sample) ≡ halted [] 24 9 (eight 0) (eight 0)
  pub no_right_there : ending (Rules.posting true 9 (6 ∷ []) 3 1 (key_of (pos 1) (pos 2)) (labelled (held (pos 5)) 8) sample) ≡ halted [] 24 9 (eight 0) (eight 0)
  pub not_within : ending (Rules.posting true 9 (38 ∷ []) 3 0 (key_of (pos 1) (pos 2)) (labelled (held (pos 5)) 8) sample) ≡ halted [] 26 9 (38 ∷ []) (1046 ∷ [])
  pub not_within_passed : (final (Rules.posting false 9 (38 ∷ []) 3 0 (key_of (pos 1) (pos 2)) (labelled (held (pos 5)) 8) sample)).cells 10 ≡ labelled (held (pos 5)) 46
  -- ---- triggers
  -- owner and line in the context, the amount with its own label too, and 0 for the other thirteen
  pub trigger_variables : map (Rules.trigger_vars (16 ∷ []) (key_of (pos 1) (pos 2)) (labelled (held (pos 9)) 8)) (0 ∷ 1 ∷ 2 ∷ 3 ∷ 15 ∷ 16 ∷ [])
      ≡ labelled (pos 1) 16 ∷ labelled (pos 2) 16 ∷ labelled (pos 9) 24 ∷ labelled (pos 0) 16 ∷ labelled (pos 0) 16 ∷ record { val = pos 0; lab = [] } ∷ []
  pub numbered : Rules.numbers 2 3 ≡ 2 ∷ 3 ∷ 4 ∷ []
  pub regions : map (Rules.region_places small_book) (0 ∷ 1 ∷ []) ≡ eight 48 ∷ eight 65280 ∷ []
  -- the event fits, and the region holds the place: place 10 is of region 1, put is event 1
  pub fits : map (Rules.fitting small_book 1 10) (trigger 1 1 0 0 ∷ trigger 1 2 0 0 ∷ trigger 0 1 0 0 ∷ []) ≡ true ∷ false ∷ false ∷ []
  -- trigger 1 fits: in the context, with its own user, above itself, on its body; triggers 2 and 3 do not
  pub trigger_runs : map (λ n. ending (triggered n)) (1 ∷ 2 ∷ 3 ∷ []) ≡ went (changed 16 6 2 ∷ said 41 (pos 100) ∷ []) tt ∷ went [] tt ∷ went [] tt ∷ []
  pub trigger_reads : ending (Rules.trigger_run small_book true reading here 1 10 (key_of (pos 1) (pos 2)) (labelled (held (pos 9)) 8) 1 sample)
      ≡ went (said 41 (pos 1) ∷ said 41 (pos 2) ∷ said 41 (pos 9) ∷ said 41 (pos 0) ∷ []) tt
  pub trigger_leaves : (final (triggered 1)).vars 2 ≡ labelled (pos 12) 20
  -- those from number 1 on that fit, by number
  pub fired : ending (Rules.fire small_book true running here 1 10 (key_of (pos 1) (pos 2)) (labelled (held (pos 9)) 8) sample)
      ≡ went (changed 16 6 2 ∷ said 41 (pos 100) ∷ changed 16 2 5 ∷ said 44 (pos 99) ∷ []) tt
  -- ---- rights: the named user's named set gains or loses the region's places, and keeps its others; no other set changes
  pub grants_read : map (Rules.granted small_book 3 1 1 sample.rights).read (2 ∷ 3 ∷ []) ≡ (1028 ∷ []) ∷ eight 65288 ∷ []
  pub grants_read_only : (Rules.granted small_book 3 1 1 sample.rights).write 3 ≡ 1025 ∷ []
  pub grants_write : map (Rules.granted small_book 3 1 2 sample.rights).write (2 ∷ 3 ∷ []) ≡ (0 ∷ []) ∷ eight 65281 ∷ []
  pub grants_write_only : (Rules.granted small_book 3 1 2 sample.rights).read 3 ≡ 2056 ∷ []
  pub revokes_read : map (Rules.revoked small_book 3 1 1 sample.rights).read (2 ∷ 3 ∷ []) ≡ (1028 ∷ []) ∷ eight 8 ∷ []
  pub revokes_read_only : (Rules.revoked small_book 3 1 1 sample.rights).write 3 ≡ 1025 ∷ []
  pub revokes_write : map (Rules.revoked small_book 3 1 2 sample.rights).write (2 ∷ 3 ∷ []) ≡ (0 ∷ []) ∷ eight 1 ∷ []
  pub revokes_write_only : (Rules.revoked small_book 3 1 2 sample.rights).read 3 ≡ 2056 ∷ []
  -- ---- commands, by a command on node 9 of user 3 in the context of place 4
  pub skips : ending (does here syntax.skip sample) ≡ went [] tt
  -- 17: the label is context plus expression, and not the old one; 25 where the old one lacks the context
  pub assigns : (ending (does here (syntax.assign 6 2) sample) ≡ went (said 2 (pos 100) ∷ []) tt)
      × (map (final (does here (syntax.assign 6 2) sample)).vars (5 ∷ 6 ∷ []) ≡ labelled (pos 15) 48 ∷ labelled (pos 2) 20 ∷ [])
  pub assigns_not : ending (does here (syntax.assign 4 2) sample) ≡ halted (said 2 (pos 100) ∷ []) 25 9 (16 ∷ []) (32 ∷ [])
  pub assigns_unlabelled : (final (does_unlabelled here (syntax.assign 4 2) sample)).vars 4 ≡ labelled (pos 2) 20
  -- 18
  pub sequences : ending (does here (syntax.seq 2 3) sample) ≡ went (changed 16 3 1 ∷ said 2 (pos 100) ∷ changed 16 3 1 ∷ said 3 (pos 99) ∷ []) tt
  -- 19: the way that is taken gains the condition's label, place 5 or place 0
  pub branches : ending (does here (syntax.branch 5 2 3) sample) ≡ went (said 5 (pos 100) ∷ changed 48 3 1 ∷ said 2 (pos 99) ∷ []) tt
  pub branches_else : ending (does here (syntax.branch 0 2 3) sample) ≡ went (said 0 (pos 100) ∷ changed 17 3 1 ∷ said 3 (pos 99) ∷ []) tt
  -- 20: body and next test gain the test's label; a test that is 0 ends it
  pub repeats : ending (does here (syntax.while 5 2) sample)
      ≡ went (said 5 (pos 100) ∷ changed 48 3 1 ∷ said 2 (pos 99) ∷ changed 48 3 1 ∷ said 9 (pos 98) ∷ []) tt
  pub repeats_no_more : ending (does here (syntax.while 0 2) sample) ≡ went (said 0 (pos 100) ∷ []) tt
  -- 21: amount 3 at owner 1, line 2; its triggers run in context plus key label, places 1, 2 and 4, by their own users
  pub puts : (ending (does here (syntax.put 0 1 2 3) sample)
      ≡ went (said 1 (pos 100) ∷ said 2 (pos 99) ∷ said 3 (pos 98) ∷ changed 22 6 2 ∷ said 41 (pos 97) ∷ changed 22 2 5 ∷ said 44 (pos 96) ∷ []) tt)
      × (map (final (does here (syntax.put 0 1 2 3) sample)).cells (9 ∷ 10 ∷ []) ≡ labelled (held (pos 9)) 512 ∷ labelled (held (pos 3)) 30 ∷ [])
  -- in table 1 they are those of table 1
  pub puts_there : ending (does (in_context 16 5) (syntax.put 1 1 2 3) sample)
      ≡ went (said 1 (pos 100) ∷ said 2 (pos 99) ∷ said 3 (pos 98) ∷ changed 22 4 4 ∷ said 43 (pos 97) ∷ []) tt
  -- place 5 of the context is not in the cell's old label, and user 4 may not write the cell
  pub puts_not : map (λ e. ending (does e (syntax.put 0 1 2 3) sample)) (in_context 32 3 ∷ in_context 16 4 ∷ [])
      ≡ halted (said 1 (pos 100) ∷ said 2 (pos 99) ∷ said 3 (pos 98) ∷ []) 26 9 (38 ∷ []) (1046 ∷ []) ∷ halted (said 1 (pos 100) ∷ said 2 (pos 99) ∷ said 3 (pos 98) ∷ []) 24 9 (eight 0) (eight 0) ∷ []
  -- 22: the cell is absent and has context plus key label; the trigger of event 2 runs
  pub clears : (ending (does here (syntax.clear 0 1 2) sample) ≡ went (said 1 (pos 100) ∷ said 2 (pos 99) ∷ changed 22 7 3 ∷ said 42 (pos 98) ∷ []) tt)
      × ((final (does here (syntax.clear 0 1 2) sample)).cells 10 ≡ record { val = absent; lab = eight 22 })
  -- ---- what a stop inside a trigger's body takes back
  -- The program's own put: body 40 is done, body 41 stops. In each mode the same is told, by the same stop, at the same cost
  pub puts_undone : map (λ mode. ending (failing own_command (syntax.put 0 1 2 3) mode)) modes
      ≡ replicate 3 (halted (said 1 (pos 100) ∷ said 2 (pos 99) ∷ said 3 (pos 98) ∷ changed 22 5 1 ∷ said 40 (pos 97) ∷ changed 22 6 2 ∷ said 41 (pos 96) ∷ []) 25 41 (8 ∷ []) (2 ∷ []))
  -- the cells of both bodies and of the put itself are as before the put, but by the rule before Change 2
  pub puts_undone_cells : map (λ mode. left_at (6 ∷ 10 ∷ 40 ∷ 41 ∷ []) (failing own_command (syntax.put 0 1 2 3) mode)) modes
      ≡ (labelled absent 64 ∷ labelled (held (pos 10)) 1046 ∷ labelled (held (pos 40)) (2 ^ 40) ∷ labelled (held (pos 41)) (2 ^ 41) ∷ [])
      ∷ (labelled (held (pos 41)) 1 ∷ labelled (held (pos 41)) 1 ∷ labelled absent 1 ∷ labelled absent 1 ∷ [])
      ∷ (labelled absent 64 ∷ labelled (held (pos 10)) 1046 ∷ labelled (held (pos 40)) (2 ^ 40) ∷ labelled (held (pos 41)) (2 ^ 41) ∷ []) ∷ []
  pub puts_undone_left : map (λ mode. counts (final (failing own_command (syntax.put 0 1 2 3) mode))) modes ≡ replicate 3 (95 ∷ 5 ∷ [])
  -- a put in a trigger's body, which fires triggers from 1 on, takes nothing back by itself
  pub puts_in_body : (map (λ mode. ending (failing here (syntax.put 0 1 2 3) mode)) modes
      ≡ replicate 3 (halted (said 1 (pos 100) ∷ said 2 (pos 99) ∷ said 3 (pos 98) ∷ changed 22 6 2 ∷ said 41 (pos 97) ∷ []) 25 41 (8 ∷ []) (2 ∷ [])))
      × (map (λ mode. left_at (6 ∷ 10 ∷ 40 ∷ 41 ∷ []) (failing here (syntax.put 0 1 2 3) mode)) modes
      ≡ replicate 3 (labelled (held (pos 41)) 1 ∷ labelled (held (pos 41)) 1 ∷ labelled (held (pos 40)) (2 ^ 40) ∷ labelled absent 1 ∷ []))
  -- where all bodies are done, all that was written stays
  pub puts_done : (map (λ mode. ending (passing own_command (syntax.put 0 1 2 3) mode)) modes
      ≡ replicate 3 (went (said 1 (pos 100) ∷ said 2 (pos 99) ∷ said 3 (pos 98) ∷ changed 22 5 1 ∷ said 40 (pos 97) ∷ changed 22 6 2 ∷ said 41 (pos 96) ∷ changed 22 2 5 ∷ said 44 (pos 95) ∷ []) tt))
      × (map (λ mode. left_at (6 ∷ 10 ∷ 40 ∷ 41 ∷ 44 ∷ []) (passing own_command (syntax.put 0 1 2 3) mode)) modes
      ≡ replicate 3 (labelled (held (pos 44)) 1 ∷ labelled (held (pos 44)) 1 ∷ labelled absent 1 ∷ labelled absent 1 ∷ labelled absent 1 ∷ []))
  -- a stop before the triggers, on the put by 23, 24 and 26 or in its key, finds nothing written
  pub puts_before : (ending (failing own_command (syntax.put 0 8 2 3) Rules.monitored) ∷ ending (failing (in_program 16 4) (syntax.put 0 1 2 3) Rules.monitored)
      ∷ ending (failing (in_program 32 3) (syntax.put 0 1 2 3) Rules.monitored) ∷ ending (key_stops (syntax.put 0 1 2 3)) ∷ []
      ≡ halted (said 8 (pos 100) ∷ said 2 (pos 99) ∷ said 3 (pos 98) ∷ []) 23 9 (eight 0) (eight 0) ∷ halted (said 1 (pos 100) ∷ said 2 (pos 99) ∷ said 3 (pos 98) ∷ []) 24 9 (eight 0) (eight 0)
      ∷ halted (said 1 (pos 100) ∷ said 2 (pos 99) ∷ said 3 (pos 98) ∷ []) 26 9 (38 ∷ []) (1046 ∷ []) ∷ halted (said 1 (pos 100) ∷ []) 22 2 (eight 0) (eight 0) ∷ [])
      × (map (left_at (6 ∷ 10 ∷ []))
      (failing own_command (syntax.put 0 8 2 3) Rules.monitored ∷ failing (in_program 16 4) (syntax.put 0 1 2 3) Rules.monitored ∷ failing (in_program 32 3) (syntax.put 0 1 2 3) Rules.monitored ∷ key_stops (syntax.put 0 1 2 3) ∷ [])
      ≡ replicate 4 (labelled absent 64 ∷ labelled (held (pos 10)) 1046 ∷ []))
  -- the same of a clear, whose trigger has body 42
  pub clears_undone : (map (λ mode. ending (failing own_command (syntax.clear 0 1 2) mode)) modes
      ≡ replicate 3 (halted (said 1 (pos 100) ∷ said 2 (pos 99) ∷ changed 22 7 3 ∷ said 42 (pos 98) ∷ []) 25 42 (8 ∷ []) (2 ∷ [])))
      × (map (λ mode. left_at (6 ∷ 10 ∷ 42 ∷ []) (failing own_command (syntax.clear 0 1 2) mode)) modes
      ≡ (labelled absent 64 ∷ labelled (held (pos 10)) 1046 ∷ labelled (held (pos 42)) (2 ^ 42) ∷ [])
      ∷ (labelled (held (pos 42)) 1 ∷ labelled (held (pos 42)) 1 ∷ labelled absent 1 ∷ [])
      ∷ (labelled absent 64 ∷ labelled (held (pos 10)) 1046 ∷ labelled (held (pos 42)) (2 ^ 42) ∷ []) ∷ [])
  pub clears_in_body : (map (λ mode. ending (failing here (syntax.clear 0 1 2) mode)) modes
      ≡ replicate 3 (halted (said 1 (pos 100) ∷ said 2 (pos 99) ∷ changed 22 7 3 ∷ said 42 (pos 98) ∷ []) 25 42 (8 ∷ []) (2 ∷ [])))
      × (map (λ mode. left_at (6 ∷ 10 ∷ 42 ∷ []) (failing here (syntax.clear 0 1 2) mode)) modes
      ≡ replicate 3 (labelled (held (pos 42)) 1 ∷ labelled (held (pos 42)) 1 ∷ labelled absent 1 ∷ []))
  pub clears_done : (map (λ mode. ending (passing own_command (syntax.clear 0 1 2) mode)) modes
      ≡ replicate 3 (went (said 1 (pos 100) ∷ said 2 (pos 99) ∷ changed 22 7 3 ∷ said 42 (pos 98) ∷ []) tt))
      × (map (λ mode. left_at (6 ∷ 10 ∷ 42 ∷ []) (passing own_command (syntax.clear 0 1 2) mode)) modes
      ≡ replicate 3 (labelled (held (pos 42)) 1 ∷ labelled (held (pos 42)) 1 ∷ labelled absent 1 ∷ []))
  pub clears_before : (ending (failing (in_program 16 4) (syntax.clear 0 1 2) Rules.monitored) ∷ ending (key_stops (syntax.clear 0 1 2)) ∷ []
      ≡ halted (said 1 (pos 100) ∷ said 2 (pos 99) ∷ []) 24 9 (eight 0) (eight 0) ∷ halted (said 1 (pos 100) ∷ []) 22 2 (eight 0) (eight 0) ∷ [])
      × (map (left_at (6 ∷ 10 ∷ [])) (failing (in_program 16 4) (syntax.clear 0 1 2) Rules.monitored ∷ key_stops (syntax.clear 0 1 2) ∷ [])
      ≡ replicate 2 (labelled absent 64 ∷ labelled (held (pos 10)) 1046 ∷ []))
  -- 23: user 2 may read places 2 and 10, and places 4 and 5 are public; place 6 is neither
  pub tells : ending (does here (syntax.out 2 2) sample) ≡ went (said 2 (pos 100) ∷ said 2 (pos 2) ∷ []) tt
  pub tells_not : ending (does here (syntax.out 2 6) sample) ≡ halted (said 6 (pos 100) ∷ []) 27 9 (80 ∷ []) (eight 1076)
  pub tells_not_in_context : ending (does (in_context 64 3) (syntax.out 2 2) sample) ≡ halted (said 2 (pos 100) ∷ []) 27 9 (68 ∷ []) (eight 1076)
  pub tells_unlabelled : ending (does_unlabelled here (syntax.out 2 6) sample) ≡ went (said 6 (pos 100) ∷ said 2 (pos 6) ∷ []) tt
  pub tells_rights : (final (does here (syntax.out 2 2) sample)).rights.read 2 ≡ 1028 ∷ []
  -- 27 comes before 30
  pub tells_no_room : map (λ a. ending (does here (syntax.out 2 a) (having 100 0))) (2 ∷ 6 ∷ [])
      ≡ halted (said 2 (pos 100) ∷ []) 30 9 (eight 0) (eight 0) ∷ halted (said 6 (pos 100) ∷ []) 27 9 (80 ∷ []) (eight 1076) ∷ []
  -- 24 and 25: user 0, in a context that is public; the record, and the right
  pub grants : map (λ c. ending (does office c sample)) (syntax.grant 3 1 1 ∷ syntax.grant 3 1 2 ∷ syntax.revoke 3 1 1 ∷ syntax.revoke 3 1 2 ∷ [])
      ≡ went (changed 2 3 1 ∷ []) tt ∷ went (changed 3 3 1 ∷ []) tt ∷ went (changed 4 3 1 ∷ []) tt ∷ went (changed 5 3 1 ∷ []) tt ∷ []
  pub grants_reading : map (λ c. (final (does office c sample)).rights.read 3) (syntax.grant 3 1 1 ∷ syntax.revoke 3 1 1 ∷ []) ≡ eight 65288 ∷ eight 8 ∷ []
  pub grants_writing : map (λ c. (final (does office c sample)).rights.write 3) (syntax.grant 3 1 2 ∷ syntax.revoke 3 1 2 ∷ []) ≡ eight 65281 ∷ eight 1 ∷ []
  -- 28 before 29 before 30
  pub grants_not : map (λ c. ending (does (in_context 80 3) c (having 100 0))) (syntax.grant 3 1 1 ∷ syntax.revoke 3 1 1 ∷ [])
      ≡ halted [] 28 9 (eight 0) (eight 0) ∷ halted [] 28 9 (eight 0) (eight 0) ∷ []
  pub grants_not_public : map (λ c. ending (does (in_context 80 0) c (having 100 0))) (syntax.grant 3 1 1 ∷ syntax.revoke 3 1 1 ∷ [])
      ≡ halted [] 29 9 (80 ∷ []) (eight 48) ∷ halted [] 29 9 (80 ∷ []) (eight 48) ∷ []
  pub grants_no_room : map (λ c. ending (does office c (having 100 0))) (syntax.grant 3 1 1 ∷ syntax.revoke 3 1 1 ∷ [])
      ≡ halted [] 30 9 (eight 0) (eight 0) ∷ halted [] 30 9 (eight 0) (eight 0) ∷ []
  pub grants_unlabelled : map (λ c. ending (does_unlabelled (in_context 80 0) c sample)) (syntax.grant 3 1 1 ∷ syntax.revoke 3 1 1 ∷ [])
      ≡ went (changed 2 3 1 ∷ []) tt ∷ went (changed 4 3 1 ∷ []) tt ∷ []
  -- 26: the value stays, and the label gains the region's places; 25 as for an assignment
  pub raises : map (final (does here (syntax.raise 6 1) sample)).vars (5 ∷ 6 ∷ []) ≡ labelled (pos 15) 48 ∷ record { val = pos 16; lab = eight 65360 } ∷ []
  pub raises_unlabelled : (final (does_unlabelled here (syntax.raise 4 1) sample)).vars 4 ≡ record { val = pos 14; lab = eight 65312 }
  pub raises_not : ending (does here (syntax.raise 4 1) sample) ≡ halted [] 25 9 (16 ∷ []) (32 ∷ [])
  -- ---- nodes and programs
  pub costs : map (Rules.cost_at small_book) (0 ∷ 1 ∷ 2 ∷ []) ≡ 1 ∷ 4 ∷ 1 ∷ []
  -- with no fuel, 21 on the node; else its cost is paid, its children run with less fuel, and its rule is applied
  pub out_of_fuel : (ending (Rules.eval small_book 0 1 sample) ≡ halted [] 21 1 (eight 0) (eight 0)) × (ending (Rules.exec small_book Rules.monitored 0 here 2 sample) ≡ halted [] 21 2 (eight 0) (eight 0))
  pub evaluates : (ending (Rules.eval small_book 1 0 sample) ≡ went [] (lit (pos 7))) × (counts (final (Rules.eval small_book 1 0 sample)) ≡ 99 ∷ 5 ∷ [])
  pub evaluates_children : (ending (Rules.eval small_book 1 1 sample) ≡ halted [] 21 0 (eight 0) (eight 0)) × (counts (final (Rules.eval small_book 1 1 sample)) ≡ 96 ∷ 5 ∷ [])
  pub evaluates_not : ending (Rules.eval small_book 9 1 (having 3 5)) ≡ halted [] 21 1 (eight 0) (eight 0)
  pub executes : (ending (Rules.exec small_book Rules.monitored 1 here 2 sample) ≡ went [] tt) × (counts (final (Rules.exec small_book Rules.monitored 1 here 2 sample)) ≡ 99 ∷ 5 ∷ [])
  pub executes_not : ending (Rules.exec small_book Rules.monitored 9 here 2 (having 0 5)) ≡ halted [] 21 2 (eight 0) (eight 0)
