-- What each part of a call gives, at its limits: the clauses of Call.antt one by one.
use Rattle.std.specs.Prelude.{◌≡◌, List, [], ◌∷◌, ◌++◌, map, Bool, true, false, ℕ, ◌^◌, pos, negsuc, get_or, take, drop, replicate, Ok, Err}
use Rattle.book.specs.Records.{Book}
use Rattle.book.specs.Encode.{encode}
use Rattle.book.specs.Tables.{cell, table_region, public, may_write, constant, variable, sum, both, put, clear, out, raise, program, trigger, w_file}
use Rattle.book.specs.Refusals.{Verdict, verdict_values, refusal_of}
use Rattle.book.specs.declared.Reason.TheVariants as reasons
use Rattle.monitor.specs.Labelled.{lit}
use Rattle.monitor.specs.Run.{held, absent, said, changed, Out, done, stop}
use Rattle.monitor.specs.Call
use Rattle.monitor.specs.Samples.{went, halted, ending, final, counts, eight, sample_cells, sample, having, small_book}
use Rattle.monitor.specs.declared.Answer.TheVariants.{Refused, Stopped, Finished}

-- ---- lent memory for the clauses

-- so many amounts, presence words, label words and trace bytes
abbrev pub lent : ℕ → ℕ → ℕ → ℕ → Call.Memory
lent amounts presence labels trace =
    record { amounts = replicate amounts (pos 1); presence = replicate presence 2; labels = replicate labels 3; trace = replicate trace 4 }

-- memory of three trace bytes more than two records have
abbrev pub nineteen : Call.Memory
nineteen = lent 512 8 4096 19

abbrev pub verdict_of : ℕ → Call.Memory → Verdict
verdict_of budget m = Call.call_verdict w_file budget m

abbrev pub refused_1 : Verdict
refused_1 = Err (refusal_of reasons.Lent 0)

-- variable 0 is raised by table 0, which user 1 may not read, and shown to him
abbrev pub raising : Book
raising = record {
  cells = [];
  regions = table_region 0 ∷ [];
  rights = [];
  nodes = raise 0 0 ∷ variable 0 ∷ out 1 1 ∷ both 0 2 ∷ [];
  programs = program 0 3 ∷ [];
  triggers = [];
  labels = [];
}

-- the file of a book that tells user 1 the constant 0 twice
abbrev pub telling_twice : List ℕ
telling_twice = encode (record {
  cells = [];
  regions = [];
  rights = [];
  nodes = constant (pos 0) ∷ out 0 1 ∷ both 1 1 ∷ [];
  programs = program 0 2 ∷ [];
  triggers = [];
  labels = [];
})

-- the call of a book in which 2 is put at (0,0,0), and the trigger clears (0,0,2), puts 2 at (0,0,1), which is absent, and stops at owner 8
abbrev pub failing_call : Bool → Call.Result
failing_call labels = Call.call labels (encode (record {
  cells = cell 0 0 0 (pos 5) ∷ cell 0 0 2 (pos 6) ∷ [];
  regions = table_region 0 ∷ [];
  rights = may_write 0 0 ∷ [];
  nodes = constant (pos 0) ∷ constant (pos 1) ∷ constant (pos 2) ∷ constant (pos 8) ∷ put 0 0 0 2 ∷ clear 0 0 2 ∷ put 0 0 1 2 ∷ put 0 3 0 0 ∷ both 5 6 ∷ both 8 7 ∷ [];
  programs = program 0 4 ∷ [];
  triggers = trigger 0 1 0 9 ∷ [];
  labels = [];
})) 100 (lent 512 8 4096 16)

-- the call of a book in which 2 is put at (0,0,0), and then a put stops at owner 8; no trigger fires
abbrev pub stopping_call : Call.Result
stopping_call = Call.call true (encode (record {
  cells = [];
  regions = table_region 0 ∷ [];
  rights = may_write 0 0 ∷ [];
  nodes = constant (pos 0) ∷ constant (pos 2) ∷ constant (pos 8) ∷ put 0 0 0 1 ∷ put 0 2 0 0 ∷ both 3 4 ∷ [];
  programs = program 0 5 ∷ [];
  triggers = [];
  labels = [];
})) 100 (lent 512 8 4096 16)

-- the call of a book that tells user 6, who has no right, the sum of owner 0's line 0, which is public
abbrev pub public_call : Call.Result
public_call = Call.call true (encode (record {
  cells = cell 0 0 0 (pos 5) ∷ [];
  regions = table_region 0 ∷ [];
  rights = public 0 ∷ [];
  nodes = constant (pos 0) ∷ sum 0 0 0 0 0 ∷ out 1 6 ∷ [];
  programs = program 0 2 ∷ [];
  triggers = [];
  labels = [];
})) 100 (lent 512 8 4096 16)

-- a run that told two records and left 93
abbrev pub finished_run : Out (Unit {0})
finished_run = done (said 1 (pos 5) ∷ changed 2 3 1 ∷ []) tt (having 93 0)

abbrev pub stopped_run : Out (Unit {0})
stopped_run = stop (said 1 (pos 5) ∷ []) (record { number = 27; node = 9; compared = record { tested = 7 ∷ []; bound = 1 ∷ [] } }) (having 93 0)

-- the bytes of the two records
abbrev pub two_records : List ℕ
two_records = 1 ∷ 1 ∷ 0 ∷ 0 ∷ 5 ∷ 0 ∷ 0 ∷ 0 ∷ 2 ∷ 3 ∷ 1 ∷ 0 ∷ 0 ∷ 0 ∷ 0 ∷ 0 ∷ []

pub record CallClauses : Type 0 where
  -- the paper's numbers: of a refusal, a stop and a finished run
  pub numbers : map Call.values (Refused (refusal_of reasons.Node 3) ∷ Stopped 27 7 19 24 ∷ Finished 39 16 ∷ [])
      ≡ record { number = 8; at = 3; cost = 0; bytes = 0 } ∷ record { number = 27; at = 7; cost = 19; bytes = 24 } ∷ record { number = 0; at = 0; cost = 39; bytes = 16 } ∷ []
  -- cells from lent memory: amount 1, bit 1 of presence word 0, and label words 8 to 15
  pub cells_lent : Call.cells_of (pos 5 ∷ negsuc 6 ∷ pos 7 ∷ []) (2 ∷ []) (10 ∷ 11 ∷ 12 ∷ 13 ∷ 14 ∷ 15 ∷ 16 ∷ 17 ∷ 20 ∷ 21 ∷ 22 ∷ 23 ∷ 24 ∷ 25 ∷ 26 ∷ 27 ∷ 30 ∷ []) 1
      ≡ record { val = record { present = true; amount = negsuc 6 }; lab = 20 ∷ 21 ∷ 22 ∷ 23 ∷ 24 ∷ 25 ∷ 26 ∷ 27 ∷ [] }
  pub absent_lent : (Call.cells_of (pos 5 ∷ negsuc 6 ∷ pos 7 ∷ []) (2 ∷ []) (replicate 24 1) 2).val ≡ record { present = false; amount = pos 7 }
  -- and lent memory from the cells: 512 amounts, of which cell 6 is absent; all bits of eight words but its own; labels one after another
  pub amounts_stored : (take 8 (Call.amounts_in sample_cells) ≡ pos 0 ∷ pos 1 ∷ pos 2 ∷ pos 3 ∷ pos 4 ∷ pos 5 ∷ pos 0 ∷ pos 7 ∷ [])
      × (drop 510 (Call.amounts_in sample_cells) ≡ pos 510 ∷ pos 511 ∷ [])
  pub presence_stored : Call.presence_in sample_cells ≡ 18446744073709551551 ∷ replicate 7 18446744073709551615
  pub labels_stored : Call.labels_in sample_cells 3 ≡ 1 ∷ 2 ∷ 4 ∷ []
  -- records: kind, user, region, 0, and the amount's four bytes, lowest first
  pub records_said : map Call.record_bytes (said 3 (negsuc 1) ∷ said 7 (pos 67305985) ∷ [])
      ≡ (1 ∷ 3 ∷ 0 ∷ 0 ∷ 254 ∷ 255 ∷ 255 ∷ 255 ∷ []) ∷ (1 ∷ 7 ∷ 0 ∷ 0 ∷ 1 ∷ 2 ∷ 3 ∷ 4 ∷ []) ∷ []
  pub records_changed : Call.record_bytes (changed 5 6 7) ≡ 5 ∷ 6 ∷ 7 ∷ 0 ∷ 0 ∷ 0 ∷ 0 ∷ 0 ∷ []
  pub records_in_order : Call.trace_bytes (said 1 (pos 5) ∷ changed 2 3 1 ∷ []) ≡ two_records
  -- the script is the book without its cells and labels
  pub script_kept : Call.script small_book ≡ record { cells = []; regions = small_book.regions; rights = small_book.rights; nodes = small_book.nodes; programs = small_book.programs; triggers = small_book.triggers; labels = [] }
  -- user 1's set, and none for user 3 of three
  pub rows_of : map (Call.rows ((5 ∷ []) ∷ (6 ∷ []) ∷ (7 ∷ []) ∷ [])) (1 ∷ 3 ∷ []) ≡ (6 ∷ []) ∷ [] ∷ []
  -- the start: cell (0,0,3) holds 33 with its own place, cell (1,2,3) 44 with the label of its record; of two absent cells one has a record;
  -- user 5 reads region 1 and user 6 writes region 0
  pub start_of_cells : map (Call.start_state small_book 77 9).cells (3 ∷ 83 ∷ 84 ∷ 85 ∷ [])
      ≡ record { val = held (pos 33); lab = eight 8 } ∷ record { val = held (pos 44); lab = eight 5 } ∷ record { val = absent; lab = 0 ∷ 1048576 ∷ replicate 6 0 } ∷ record { val = absent; lab = eight 0 } ∷ []
  pub start_of_vars : map (Call.start_state small_book 77 9).vars (0 ∷ 15 ∷ []) ≡ lit (pos 0) ∷ lit (pos 0) ∷ []
  pub start_of_rights : (map (Call.start_state small_book 77 9).rights.read (5 ∷ 6 ∷ []) ≡ eight 65280 ∷ eight 0 ∷ [])
      × (map (Call.start_state small_book 77 9).rights.write (5 ∷ 6 ∷ []) ≡ eight 0 ∷ eight 48 ∷ [])
  pub start_of_counts : ((Call.start_state small_book 77 9).left ≡ 77) × ((Call.start_state small_book 77 9).room ≡ 9)
  -- the run starts with the whole budget and the whole room, and makes the tests of labels or not
  pub runs : (ending (Call.run_book true small_book 77 9) ≡ went [] tt) × (counts (final (Call.run_book true small_book 77 9)) ≡ 76 ∷ 9 ∷ [])
  pub runs_labelled : map (λ labels. ending (Call.run_book labels raising 77 9)) (true ∷ false ∷ [])
      ≡ halted [] 27 2 (eight 18446744073709551615) (eight 0) ∷ went (said 1 (pos 0) ∷ []) tt ∷ []
  -- 1: each lent length, one less and one more; trace and budget at their most and one more
  pub lengths_fit : verdict_of 1000000 (lent 512 8 4096 0) ∷ verdict_of 0 (lent 512 8 4096 65536) ∷ [] ≡ Ok tt ∷ Ok tt ∷ []
  pub lengths_refused : map (verdict_of 100) (lent 511 8 4096 0 ∷ lent 513 8 4096 0 ∷ lent 512 7 4096 0 ∷ lent 512 9 4096 0 ∷ lent 512 8 4095 0 ∷ lent 512 8 4097 0 ∷ lent 512 8 4096 65537 ∷ [])
      ≡ replicate 7 refused_1
  pub budget_refused : verdict_of 1000001 (lent 512 8 4096 0) ≡ refused_1
  -- 1 comes before those of the file
  pub lent_first : (Call.call_verdict [] 100 (lent 512 8 4096 0) ≡ Err (refusal_of reasons.Length 0)) × (Call.call_verdict [] 1000001 (lent 512 8 4096 0) ≡ refused_1)
  -- both in the paper's numbers
  pub first_numbers : map verdict_values (Call.call_verdict [] 100 (lent 512 8 4096 0) ∷ Call.call_verdict [] 1000001 (lent 512 8 4096 0) ∷ [])
      ≡ record { number = 2; index = 0 } ∷ record { number = 1; index = 0 } ∷ []
  -- memory after a run: the cells' amounts, presence and labels, and the records before the trace's other bytes
  pub trace_after : (Call.memory_after nineteen (said 1 (pos 5) ∷ changed 2 3 1 ∷ []) sample).trace ≡ two_records ++ (4 ∷ 4 ∷ 4 ∷ [])
  pub cells_after : (drop 509 (Call.memory_after nineteen [] sample).amounts ≡ pos 509 ∷ pos 510 ∷ pos 511 ∷ [])
      × (get_or (Call.memory_after nineteen [] sample).presence 0 0 ≡ 18446744073709551551) × (drop 510 (Call.memory_after nineteen [] sample).labels ≡ 2 ^ 510 ∷ 2 ^ 511 ∷ [])
  -- the answer: what was spent of the budget, and the bytes of the records
  pub finishes : (Call.result_of 100 nineteen finished_run).answer ≡ Finished 7 16
  pub stops : (Call.result_of 100 nineteen stopped_run).answer ≡ Stopped 27 9 7 8
  pub traces_left : map (λ o. take 9 (Call.result_of 100 nineteen o).memory.trace) (finished_run ∷ stopped_run ∷ [])
      ≡ (1 ∷ 1 ∷ 0 ∷ 0 ∷ 5 ∷ 0 ∷ 0 ∷ 0 ∷ 2 ∷ []) ∷ (1 ∷ 1 ∷ 0 ∷ 0 ∷ 5 ∷ 0 ∷ 0 ∷ 0 ∷ 4 ∷ []) ∷ []
  -- refused: lent memory as it was
  pub refused_untouched : Call.answered true w_file 100 nineteen (Err (refusal_of reasons.Node 3)) ≡ record { answer = Refused (refusal_of reasons.Node 3); memory = nineteen }
  -- fifteen trace bytes are room for one record, sixteen for two
  pub room_of_trace : map (λ bytes. (Call.answered true telling_twice 100 (lent 512 8 4096 bytes) (Ok tt)).answer) (15 ∷ 16 ∷ [])
      ≡ Stopped 30 1 5 8 ∷ Finished 5 16 ∷ []
  -- the records that the answer counts, and no more
  pub counted : map Call.trace_records
      (record { answer = Finished 7 16; memory = record { amounts = []; presence = []; labels = []; trace = two_records } }
      ∷ record { answer = Stopped 27 9 7 8; memory = record { amounts = []; presence = []; labels = []; trace = two_records } } ∷ [])
      ≡ ((1 ∷ 1 ∷ 0 ∷ 0 ∷ 5 ∷ 0 ∷ 0 ∷ 0 ∷ []) ∷ (2 ∷ 3 ∷ 1 ∷ 0 ∷ 0 ∷ 0 ∷ 0 ∷ 0 ∷ []) ∷ []) ∷ ((1 ∷ 1 ∷ 0 ∷ 0 ∷ 5 ∷ 0 ∷ 0 ∷ 0 ∷ []) ∷ []) ∷ []
  -- a posting that fails, from the file to lent memory: amounts, presence and labels are those of the start, and what it cost is spent: 4, two
  -- sequences, 3, 4 and 4
  pub posting_fails : ((failing_call true).answer ≡ Stopped 23 7 17 0) × (take 3 (failing_call true).memory.amounts ≡ pos 5 ∷ pos 0 ∷ pos 6 ∷ [])
      × ((failing_call true).memory.presence ≡ eight 5) × (take 24 (failing_call true).memory.labels ≡ eight 1 ++ eight 2 ++ eight 4)
      × ((failing_call true).memory.trace ≡ replicate 16 4)
  -- and so in the run with no labels
  pub posting_fails_unlabelled : ((failing_call false).answer ≡ Stopped 23 7 17 0) × (take 3 (failing_call false).memory.amounts ≡ pos 5 ∷ pos 0 ∷ pos 6 ∷ [])
  -- a stop outside a trigger's body takes nothing back: what the program wrote before stays
  pub writes_stay : (stopping_call.answer ≡ Stopped 23 4 9 0) × (take 1 stopping_call.memory.amounts ≡ pos 2 ∷ [])
  -- who has no right to read may still read what is public
  pub public_read : public_call.answer ≡ Finished 9 8
