-- What each step of a run gives, at its limits: the clauses of Labelled.antt and Run.antt one by one.
use Rattle.std.specs.Prelude.{◌≡◌, [], ◌∷◌, map, true, false, ℕ, ◌+◌, pos, negsuc, ◌-ℤ◌}
use Rattle.monitor.specs.Labelled.{lit, lift, lift2, via, under}
use Rattle.monitor.specs.Run.{held, absent, Rights, State, said, done, stop, M, next, ◌>>◌, each, when, halt, about_labels, Compared, Test, plainly, inside, guard, need, update, spend, with_vars, with_cells, recorded, pay, set_var, set_cell, tell, sixteen, own, taken_back, undoing}
use Rattle.monitor.specs.Samples.{went, halted, ending, final, counts, labelled, eight, sample, having}

-- two sets of one word
abbrev pub sets : ℕ → ℕ → Compared
sets tested bound = record { tested = tested ∷ []; bound = bound ∷ [] }

-- ---- runs to put together: each tells what was left of the budget, and uses up some

-- the run that gives 7
abbrev pub giving_seven : M ℕ
giving_seven = λ s. done (said 1 (pos s.left) ∷ []) 7 (spend 1 s)

-- stops with 22 on node 3
abbrev pub halting : M ℕ
halting = λ s. stop (said 2 (pos s.left) ∷ []) (record { number = 22; node = 3; compared = sets 4 1 }) (spend 2 s)

abbrev pub telling : ℕ → M (Unit {0})
telling n = λ s. done (said n (pos s.left) ∷ []) tt (spend 1 s)

-- a test that passes, and one that does not
abbrev pub always : Test
always = record { passes = true; compared = sets 8 2 }

abbrev pub never : Test
never = record { passes = false; compared = sets 8 2 }

-- rights in which user u may read u, and write nothing
abbrev pub other_rights : Rights → Rights
other_rights r = record { read = λ u. u ∷ []; write = λ u. [] }

-- writes cell 6, which is absent, and cell 10 twice; sets variable 3, tells a record that changes rights, and uses up 1
abbrev pub writing : M (Unit {0})
writing =
    set_cell true 9 [] 10 (labelled (held (pos 1)) 1) >> set_cell true 9 [] 6 (labelled (held (pos 2)) 2) >> set_cell true 9 [] 10 (labelled absent 4)
    >> set_var true 9 [] 3 (λ x. lit (pos 0)) >> tell 9 (said 1 (pos 5)) other_rights >> pay 1 9

-- and then stops
abbrev pub writing_to_stop : M (Unit {0})
writing_to_stop = writing >> need never 25 9

-- what it wrote beside cells: what is left of the budget and of the room, its variable, and a right
abbrev pub Stays : State → Type 0
Stays s = (counts s ≡ 99 ∷ 4 ∷ []) × (map s.vars (2 ∷ 3 ∷ []) ≡ labelled (pos 12) 20 ∷ lit (pos 0) ∷ []) × (s.rights.read 3 ≡ 3 ∷ [])

pub record RunClauses : Type 0 where
  -- the empty label has eight words, and a literal has it
  pub literal : lit (pos 5) ≡ record { val = pos 5; lab = eight 0 }
  -- of one part its label, of two parts both labels, in this order of values
  pub lifted : lift (λ z. z -ℤ pos 1) (labelled (pos 5) 1) ≡ labelled (pos 4) 1
  pub lifted_both : lift2 ◌-ℤ◌ (labelled (pos 5) 1) (labelled (pos 3) 2) ≡ labelled (pos 2) 3
  -- what is found by a value has that value's label too
  pub found_by : via (labelled (pos 5) 1) (λ z. labelled (z -ℤ pos 1) 2) ≡ labelled (pos 4) 3
  pub in_context : under (1 ∷ []) (labelled (pos 5) 2) ≡ labelled (pos 5) 3
  -- a cell that holds an amount is present, and an absent one has amount 0
  pub holding : held (negsuc 4) ≡ record { present = true; amount = negsuc 4 }
  pub not_there : absent ≡ record { present = false; amount = pos 0 }
  -- records of one run come before those of the next, which starts from the state that the one left
  pub in_turn : ending (next (giving_seven sample) (λ n. telling n)) ≡ went (said 1 (pos 100) ∷ said 7 (pos 99) ∷ []) tt
  pub in_turn_left : counts (final (next (giving_seven sample) (λ n. telling n))) ≡ 98 ∷ 5 ∷ []
  -- a stop ends the run: what was told stays, and nothing follows
  pub stop_last : ending (next (giving_seven sample) (λ n. halting)) ≡ halted (said 1 (pos 100) ∷ said 2 (pos 99) ∷ []) 22 3 (4 ∷ []) (1 ∷ [])
  pub stop_last_left : counts (final (next (giving_seven sample) (λ n. halting))) ≡ 97 ∷ 5 ∷ []
  pub stop_first : ending (next (halting sample) (λ n. telling n)) ≡ halted (said 2 (pos 100) ∷ []) 22 3 (4 ∷ []) (1 ∷ [])
  pub stop_first_left : counts (final (next (halting sample) (λ n. telling n))) ≡ 98 ∷ 5 ∷ []
  -- one after another
  pub each_in_order : ending (each (4 ∷ 3 ∷ []) telling sample) ≡ went (said 4 (pos 100) ∷ said 3 (pos 99) ∷ []) tt
  pub when_holds : ending (when true (telling 1) sample) ≡ went (said 1 (pos 100) ∷ []) tt
  pub when_not : ending (when false (telling 1) sample) ≡ went [] tt
  pub when_not_left : counts (final (when false (telling 1) sample)) ≡ 100 ∷ 5 ∷ []
  -- a halt tells nothing, and leaves the state as it is
  pub halts : ending (halt {A = ℕ} 31 9 sample) ≡ halted [] 31 9 (eight 0) (eight 0)
  pub halts_left : counts (final (halt {A = ℕ} 31 9 sample)) ≡ 100 ∷ 5 ∷ []
  -- a test of labels: within or not, and the two sets; with no labels it passes. Else the sets are empty
  pub tests : inside true (6 ∷ []) (7 ∷ []) ∷ inside true (6 ∷ []) (3 ∷ []) ∷ inside false (6 ∷ []) (3 ∷ []) ∷ plainly true ∷ plainly false ∷ []
      ≡ record { passes = true; compared = sets 6 7 } ∷ record { passes = false; compared = sets 6 3 } ∷ record { passes = true; compared = sets 6 3 }
      ∷ record { passes = true; compared = record { tested = eight 0; bound = eight 0 } } ∷ record { passes = false; compared = record { tested = eight 0; bound = eight 0 } } ∷ []
  -- 25, 26, 27 and 29 are about labels
  pub about : map about_labels (21 ∷ 22 ∷ 23 ∷ 24 ∷ 25 ∷ 26 ∷ 27 ∷ 28 ∷ 29 ∷ 30 ∷ 31 ∷ [])
      ≡ false ∷ false ∷ false ∷ false ∷ true ∷ true ∷ true ∷ false ∷ true ∷ false ∷ false ∷ []
  -- a guard: passed, the run goes on from the state tested; failed, it stops there with number and node, and nothing is told
  pub guard_passes : ending (guard (λ s. always) 25 9 (telling 1) sample) ≡ went (said 1 (pos 100) ∷ []) tt
  pub guard_stops : ending (guard (λ s. never) 25 9 (telling 1) sample) ≡ halted [] 25 9 (8 ∷ []) (2 ∷ [])
  pub guard_stops_left : counts (final (guard (λ s. never) 25 9 (telling 1) sample)) ≡ 100 ∷ 5 ∷ []
  pub need_passes : ending (need always 25 9 sample) ≡ went [] tt
  pub need_stops : ending (need never 25 9 sample) ≡ halted [] 25 9 (8 ∷ []) (2 ∷ [])
  pub updated : map (update (λ n. n + 10) 3 7) (2 ∷ 3 ∷ 4 ∷ []) ≡ 12 ∷ 7 ∷ 14 ∷ []
  -- changes of the state: each changes its part, and the others stay
  pub spent : counts (spend 4 sample) ≡ 96 ∷ 5 ∷ []
  pub spent_else : ((spend 4 sample).cells 3 ≡ labelled (held (pos 3)) 8) × ((spend 4 sample).vars 3 ≡ labelled (pos 13) 24) × ((spend 4 sample).rights.write 3 ≡ 1025 ∷ [])
  pub new_vars : ((with_vars (λ p. lit (pos p)) sample).vars 3 ≡ lit (pos 3)) × (counts (with_vars (λ p. lit (pos p)) sample) ≡ 100 ∷ 5 ∷ [])
      × ((with_vars (λ p. lit (pos p)) sample).cells 3 ≡ labelled (held (pos 3)) 8) × ((with_vars (λ p. lit (pos p)) sample).rights.write 3 ≡ 1025 ∷ [])
  pub new_cells : ((with_cells (λ q. lit absent) sample).cells 3 ≡ lit absent) × (counts (with_cells (λ q. lit absent) sample) ≡ 100 ∷ 5 ∷ [])
      × ((with_cells (λ q. lit absent) sample).vars 3 ≡ labelled (pos 13) 24) × ((with_cells (λ q. lit absent) sample).rights.write 3 ≡ 1025 ∷ [])
  pub new_rights : ((recorded other_rights sample).rights.read 3 ≡ 3 ∷ []) × (counts (recorded other_rights sample) ≡ 100 ∷ 4 ∷ [])
      × ((recorded other_rights sample).vars 3 ≡ labelled (pos 13) 24) × ((recorded other_rights sample).cells 3 ≡ labelled (held (pos 3)) 8)
  -- 21: all that is left may be spent, and not 1 more; then nothing is
  pub paid : (ending (pay 100 9 sample) ≡ went [] tt) × (counts (final (pay 100 9 sample)) ≡ 0 ∷ 5 ∷ [])
  pub not_paid : (ending (pay 101 9 sample) ≡ halted [] 21 9 (eight 0) (eight 0)) × (counts (final (pay 101 9 sample)) ≡ 100 ∷ 5 ∷ [])
  -- 25: place 4 is in variable 6's label and not in variable 4's; the new value is made from the old
  pub var_set : (ending (set_var true 9 (16 ∷ []) 6 (λ x. under (1 ∷ []) x) sample) ≡ went [] tt)
      × (map (final (set_var true 9 (16 ∷ []) 6 (λ x. under (1 ∷ []) x) sample)).vars (5 ∷ 6 ∷ 7 ∷ [])
      ≡ labelled (pos 15) 48 ∷ labelled (pos 16) 81 ∷ labelled (pos 17) 144 ∷ [])
  pub var_not_set : (ending (set_var true 9 (48 ∷ []) 4 (λ x. lit (pos 0)) sample) ≡ halted [] 25 9 (48 ∷ []) (32 ∷ []))
      × ((final (set_var true 9 (48 ∷ []) 4 (λ x. lit (pos 0)) sample)).vars 4 ≡ labelled (pos 14) 32)
  pub var_unlabelled : (final (set_var false 9 (48 ∷ []) 4 (λ x. labelled (pos 0) 2) sample)).vars 4 ≡ labelled (pos 0) 2
  -- 26: places 1 and 2 are in cell 10's label and not in cell 11's; the new cell and its label replace the old
  pub cell_set : (ending (set_cell true 9 (6 ∷ []) 10 (labelled absent 1) sample) ≡ went [] tt)
      × (map (final (set_cell true 9 (6 ∷ []) 10 (labelled absent 1) sample)).cells (9 ∷ 10 ∷ 11 ∷ [])
      ≡ labelled (held (pos 9)) 512 ∷ labelled absent 1 ∷ labelled (held (pos 11)) 2048 ∷ [])
  pub cell_not_set : (ending (set_cell true 9 (2054 ∷ []) 11 (labelled absent 2054) sample) ≡ halted [] 26 9 (2054 ∷ []) (2048 ∷ []))
      × ((final (set_cell true 9 (2054 ∷ []) 11 (labelled absent 2054) sample)).cells 11 ≡ labelled (held (pos 11)) 2048)
  pub cell_unlabelled : (final (set_cell false 9 (6 ∷ []) 11 (labelled absent 1) sample)).cells 11 ≡ labelled absent 1
  -- 30: room for one record is enough, and used up; without room nothing is told and no right changes
  pub room_for_one : (ending (tell 9 (said 1 (pos 5)) other_rights (having 100 1)) ≡ went (said 1 (pos 5) ∷ []) tt)
      × (counts (final (tell 9 (said 1 (pos 5)) other_rights (having 100 1))) ≡ 100 ∷ 0 ∷ [])
      × ((final (tell 9 (said 1 (pos 5)) other_rights (having 100 1))).rights.read 3 ≡ 3 ∷ [])
  pub no_room : (ending (tell 9 (said 1 (pos 5)) other_rights (having 100 0)) ≡ halted [] 30 9 (eight 0) (eight 0))
      × ((final (tell 9 (said 1 (pos 5)) other_rights (having 100 0))).rights.read 3 ≡ 2056 ∷ [])
  -- variables 0 to 15
  pub variables : map (sixteen (labelled (pos 5) 1)) (0 ∷ 15 ∷ 16 ∷ []) ≡ labelled (pos 5) 1 ∷ labelled (pos 5) 1 ∷ record { val = pos 0; lab = [] } ∷ []
  -- a run with variables of its own: it sees those, and afterwards the others are back, after a stop too
  pub own_vars : ending (own (λ p. lit (pos 3)) (λ s. done (said 1 (s.vars 2).val ∷ []) tt (spend 1 s)) sample) ≡ went (said 1 (pos 3) ∷ []) tt
  pub vars_back : (final (own (λ p. lit (pos 3)) (telling 1) sample)).vars 2 ≡ labelled (pos 12) 20
  pub vars_back_left : counts (final (own (λ p. lit (pos 3)) (telling 1) sample)) ≡ 99 ∷ 5 ∷ []
  pub vars_back_stopped : ((final (own (λ p. lit (pos 3)) (need never 25 9) sample)).vars 2 ≡ labelled (pos 12) 20)
      × (ending (own (λ p. lit (pos 3)) (need never 25 9) sample) ≡ halted [] 25 9 (8 ∷ []) (2 ∷ []))
  -- cells that come back: of a run that is done none
  pub done_stays : (ending (taken_back (λ q. lit absent) (writing sample)) ≡ went (said 1 (pos 5) ∷ []) tt) × Stays (final (taken_back (λ q. lit absent) (writing sample)))
      × (map (final (taken_back (λ q. lit absent) (writing sample))).cells (6 ∷ 9 ∷ 10 ∷ []) ≡ labelled (held (pos 2)) 2 ∷ labelled (held (pos 9)) 512 ∷ labelled absent 4 ∷ [])
  -- of one that stopped all, and nothing else: its records, its stop with both sets, and the rest of its state stay
  pub cells_back : map (final (taken_back (λ q. labelled absent q) (writing_to_stop sample))).cells (6 ∷ 9 ∷ 10 ∷ []) ≡ labelled absent 6 ∷ labelled absent 9 ∷ labelled absent 10 ∷ []
  pub stop_stays : (ending (taken_back (λ q. lit absent) (writing_to_stop sample)) ≡ halted (said 1 (pos 5) ∷ []) 25 9 (8 ∷ []) (2 ∷ []))
      × Stays (final (taken_back (λ q. lit absent) (writing_to_stop sample)))
  -- a run that takes its cells back: after a stop all are as it found them, present or absent, with their labels; done, it keeps what it wrote
  pub undone : map (final (undoing true writing_to_stop sample)).cells (6 ∷ 9 ∷ 10 ∷ []) ≡ labelled absent 64 ∷ labelled (held (pos 9)) 512 ∷ labelled (held (pos 10)) 1046 ∷ []
  pub undone_else : (ending (undoing true writing_to_stop sample) ≡ halted (said 1 (pos 5) ∷ []) 25 9 (8 ∷ []) (2 ∷ [])) × Stays (final (undoing true writing_to_stop sample))
  pub undone_done : (ending (undoing true writing sample) ≡ went (said 1 (pos 5) ∷ []) tt) × Stays (final (undoing true writing sample))
      × (map (final (undoing true writing sample)).cells (6 ∷ 9 ∷ 10 ∷ []) ≡ labelled (held (pos 2)) 2 ∷ labelled (held (pos 9)) 512 ∷ labelled absent 4 ∷ [])
  -- as that run found them: what was written before it stays
  pub undone_from : map (final (next (set_cell true 9 [] 10 (labelled (held (pos 7)) 7) sample) (λ a. undoing true writing_to_stop))).cells (6 ∷ 10 ∷ [])
      ≡ labelled absent 64 ∷ labelled (held (pos 7)) 7 ∷ []
  -- and where it does not take them back, they stay after a stop too
  pub not_undone : (map (final (undoing false writing_to_stop sample)).cells (6 ∷ 9 ∷ 10 ∷ []) ≡ labelled (held (pos 2)) 2 ∷ labelled (held (pos 9)) 512 ∷ labelled absent 4 ∷ [])
      × (ending (undoing false writing_to_stop sample) ≡ halted (said 1 (pos 5) ∷ []) 25 9 (8 ∷ []) (2 ∷ [])) × Stays (final (undoing false writing_to_stop sample))
