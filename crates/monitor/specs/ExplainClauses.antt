-- What each part of an explanation gives, at its limits: the clauses of Explain.antt one by one.
use Rattle.std.specs.Prelude.{◌≡◌, [], ◌∷◌, map, true, false, ℕ, ◌^◌, pos, replicate, Some, None, Err}
use Rattle.book.specs.Records.{Book}
use Rattle.book.specs.Encode.{encode}
use Rattle.book.specs.Tables.{cell, table_region, may_write, constant, plus, sum, skip, assign, both, if, put, program, trigger, w_file}
use Rattle.book.specs.declared.Reason.TheVariants as reasons
use Rattle.book.specs.Refusals.{refusal_of}
use Rattle.monitor.specs.Labelled.{Label}
use Rattle.monitor.specs.Run.{Out, stop}
use Rattle.monitor.specs.Explain
use Rattle.monitor.specs.Samples.{eight, having}
use Rattle.monitor.specs.RunClauses.{sets}
use Rattle.monitor.specs.CallClauses.{lent, finished_run, raising}
use Rattle.monitor.specs.declared.Answer.TheVariants.{Refused, Stopped}

-- ---- sets and ends for the clauses

-- places of table 3, and of table 7
abbrev pub in_middle : ℕ → Label
in_middle word = 0 ∷ 0 ∷ 0 ∷ word ∷ 0 ∷ 0 ∷ 0 ∷ 0 ∷ []

abbrev pub in_last : ℕ → Label
in_last word = 0 ∷ 0 ∷ 0 ∷ 0 ∷ 0 ∷ 0 ∷ 0 ∷ word ∷ []

-- a stop with this number, of places 1, 2 and 3 against places 0 and 2
abbrev pub stopping : ℕ → Out (Unit {0})
stopping number = stop [] (record { number = number; node = 9; compared = sets 14 5 }) (having 93 0)

abbrev pub named : ℕ → ℕ → Explain.Explanation
named place count = record { place = Some place; count = count }

-- owner 2's amount decides whether cell (0,1,0) is put: 26
abbrev pub hidden_put : Book
hidden_put = record {
  cells = cell 0 2 0 (pos 5) ∷ [];
  regions = table_region 0 ∷ [];
  rights = may_write 0 0 ∷ [];
  nodes = constant (pos 0) ∷ constant (pos 1) ∷ constant (pos 2) ∷ sum 0 2 2 0 0 ∷ put 0 1 0 1 ∷ skip ∷ if 3 4 5 ∷ [];
  programs = program 0 6 ∷ [];
  triggers = [];
  labels = [];
}

-- The amount of (0,1,0) is copied to (1,0,0), whose label is then place 8; then 2 is put at (0,1,0), whose label is then empty. In the context of
-- (1,0,0) and (0,2,0) its trigger puts 1 there: 26 of places 8 and 16 against none. The label that the stop leaves there is place 8.
abbrev pub put_again : Book
put_again = record {
  cells = cell 0 1 0 (pos 5) ∷ cell 0 2 0 (pos 7) ∷ [];
  regions = table_region 0 ∷ table_region 1 ∷ [];
  rights = may_write 0 0 ∷ may_write 0 1 ∷ [];
  nodes = constant (pos 0) ∷ constant (pos 1) ∷ constant (pos 2) ∷ sum 0 1 1 0 0 ∷ put 1 0 0 3 ∷ put 0 1 0 2 ∷ both 4 5
      ∷ sum 1 0 0 0 0 ∷ sum 0 2 2 0 0 ∷ plus 7 8 ∷ put 0 1 0 1 ∷ skip ∷ if 9 10 11 ∷ [];
  programs = program 0 6 ∷ [];
  triggers = trigger 0 1 0 12 ∷ [];
  labels = [];
}

-- The amount of (0,2,0) is put at (0,1,0), whose label is then place 16. In its context the trigger assigns a variable: 25 of place 16 against
-- none. The label that the stop leaves at (0,1,0) is place 8.
abbrev pub assign_after : Book
assign_after = record {
  cells = cell 0 1 0 (pos 5) ∷ cell 0 2 0 (pos 7) ∷ [];
  regions = table_region 0 ∷ [];
  rights = may_write 0 0 ∷ [];
  nodes = constant (pos 0) ∷ constant (pos 1) ∷ constant (pos 2) ∷ sum 0 2 2 0 0 ∷ put 0 1 0 3 ∷ sum 0 1 1 0 0 ∷ assign 5 1 ∷ skip ∷ if 5 6 7 ∷ [];
  programs = program 0 4 ∷ [];
  triggers = trigger 0 1 0 8 ∷ [];
  labels = [];
}

pub record ExplainClauses : Type 0 where
  -- places 1 and 2 against places 0 and 1: place 2 alone stands in the one and not in the other
  pub standing : map (Explain.stands (sets 6 3)) (0 ∷ 1 ∷ 2 ∷ 3 ∷ []) ≡ false ∷ false ∷ true ∷ false ∷ []
  -- the lowest, not the highest; those that stand there, not all that were tested
  pub lowest_counted : Explain.reason (sets 14 5) ≡ named 1 2
  -- in the first, a middle and the last table, at their first and last places
  pub first_places : map (λ word. Explain.reason (record { tested = eight word; bound = eight 0 })) (1 ∷ 2 ^ 63 ∷ []) ≡ named 0 1 ∷ named 63 1 ∷ []
  pub middle_places : map (λ word. Explain.reason (record { tested = in_middle word; bound = eight 7 })) (1 ∷ 2 ^ 63 ∷ []) ≡ named 192 1 ∷ named 255 1 ∷ []
  pub last_places : map (λ word. Explain.reason (record { tested = in_last word; bound = eight 7 })) (1 ∷ 2 ^ 63 ∷ []) ≡ named 448 1 ∷ named 511 1 ∷ []
  -- every place, and none
  pub all_places : Explain.reason (record { tested = replicate 8 18446744073709551615; bound = eight 0 }) ≡ named 0 512
  pub no_places : Explain.reason (sets 6 7) ≡ record { place = None; count = 0 }
  -- stops 25, 26, 27 and 29 have a reason, whatever the sets of the others
  pub explained_stops : map (λ number. Explain.explanation (stopping number)) (25 ∷ 26 ∷ 27 ∷ 29 ∷ []) ≡ replicate 4 (named 1 2)
  pub other_stops : map (λ number. Explain.explanation (stopping number)) (21 ∷ 22 ∷ 23 ∷ 24 ∷ 28 ∷ 30 ∷ 31 ∷ []) ≡ replicate 7 (record { place = None; count = 0 })
  pub finished : Explain.explanation finished_run ≡ record { place = None; count = 0 }
  -- a refused file has none
  pub refused : Explain.explained w_file 100 (lent 512 8 4096 16) (Err (refusal_of reasons.Node 3)) ≡ record { place = None; count = 0 }
  -- the whole call: 27 on a variable raised by table 0, which user 1 may not read; its number and node are the run's
  pub raised_call : ((Explain.explain_call (encode raising) 100 (lent 512 8 4096 16)).explanation ≡ named 0 64)
      × ((Explain.explain_call (encode raising) 100 (lent 512 8 4096 16)).result.answer ≡ Stopped 27 2 4 0)
  -- 26: owner 2's place is tested, and is not in the cell's label
  pub put_call : ((Explain.explain_call (encode hidden_put) 100 (lent 512 8 4096 16)).explanation ≡ named 16 1)
      × ((Explain.explain_call (encode hidden_put) 100 (lent 512 8 4096 16)).result.answer ≡ Stopped 26 4 13 0)
  -- inside a trigger's body the sets are those before the taking back: both, 11, 4, the if with its test 18, and 4; 11, 9 and 2
  pub put_again_call : ((Explain.explain_call (encode put_again) 100 (lent 512 8 4096 16)).explanation ≡ named 8 2)
      × ((Explain.explain_call (encode put_again) 100 (lent 512 8 4096 16)).result.answer ≡ Stopped 26 10 38 0)
  pub assign_after_call : ((Explain.explain_call (encode assign_after) 100 (lent 512 8 4096 16)).explanation ≡ named 16 1)
      × ((Explain.explain_call (encode assign_after) 100 (lent 512 8 4096 16)).result.answer ≡ Stopped 25 6 22 0)
  pub refused_call : ((Explain.explain_call [] 100 (lent 512 8 4096 16)).explanation ≡ record { place = None; count = 0 })
      × ((Explain.explain_call [] 100 (lent 512 8 4096 16)).result ≡ record { answer = Refused (refusal_of reasons.Length 0); memory = lent 512 8 4096 16 })
  -- refused for its lent memory, the book that would stop with 27 is not explained
  pub refused_lent : (Explain.explain_call (encode raising) 100 (lent 511 8 4096 16)).explanation ≡ record { place = None; count = 0 }
  -- book W: owner 2's eight lines
  pub w_call : (Explain.explain_call w_file 100000 (lent 512 8 4096 4096)).explanation ≡ named 16 8
