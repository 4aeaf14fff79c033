-- Witnesses: the story with which Change 5 begins, as chains of two days. Demand 3 over days could be proved of chains that there are not, or of
-- terms of which nothing follows; these statements say that there are such chains, that they meet its premises, and what they come to.
-- Answers, costs, traces and places are worked out by hand from the paper. A query with its four bounds costs 8, every other node 1.
use Rattle.std.specs.Prelude.{◌≡◌, List, [], ◌∷◌, ◌++◌, true, false, ℕ, pos}
use Rattle.std.proofs.Common.{inl}
use Rattle.book.specs.Records.{CellRecord}
use Rattle.book.specs.Tables.{cell, owner_region, public, may_read, may_write, sum, both, put, out, program, w_regions, constants}
use Rattle.monitor.specs.Labelled.{Label, bottom}
use Rattle.monitor.specs.Run.{held}
use Rattle.monitor.specs.Call.{Memory, call}
use Rattle.monitor.specs.Tables.{shows, told, lent, shown}
use Rattle.monitor.specs.Samples.{eight}
use Rattle.monitor.specs.declared.Answer.{Answer}
use Rattle.monitor.specs.declared.Answer.TheVariants.{Refused, Stopped, Finished}
use Rattle.claims.specs.TwoBooks.{Group}
use Rattle.claims.specs.Witnesses.{members, file_of}
use Rattle.chains.specs.Chains.{Chain, ended_with, chain_finished, final_cells, chain_trace, chain_reach, ChainsDifferOutside}
use Rattle.book.specs.declared.Reason.TheVariants as reasons
use Rattle.book.specs.Refusals.{refusal_of}

-- user 1 alone, who may read what is owner 1's
abbrev pub user_1 : Group
user_1 = members (1 ∷ [])

-- Monday: owner 1's cell goes to user 1, and then user 0 copies into it the amount of his neighbour, owner 2.
unfoldable pub monday : ℕ → List ℕ
monday amount =
    file_of (cell 0 1 0 (pos 250) ∷ cell 0 2 0 (pos amount) ∷ []) w_regions (may_read 1 0 ∷ may_read 2 1 ∷ may_write 0 0 ∷ [])
    (constants ++ (sum 0 1 1 0 0 ∷ out 4 1 ∷ sum 0 2 2 0 0 ∷ put 0 1 0 6 ∷ both 5 7 ∷ []))
    (program 0 8 ∷ [])
    []

-- Tuesday: 8 puts 2 at line 1 of owner 1 and sends 2 to user 1; 9 then sends him owner 1's cell at line 0 too. Owner 3's places are public on
-- that day.
unfoldable pub tuesday_with : List CellRecord → ℕ → List ℕ
tuesday_with cells root =
    file_of cells (w_regions ++ (owner_region 0 3 ∷ [])) (public 2 ∷ may_read 1 0 ∷ may_write 0 0 ∷ [])
    (constants ++ (sum 0 1 1 0 0 ∷ out 2 1 ∷ out 4 1 ∷ put 0 1 1 2 ∷ both 7 5 ∷ both 8 6 ∷ []))
    (program 0 root ∷ [])
    []

-- its file has no cells: they come from the day before
abbrev pub tuesday : ℕ → List ℕ
tuesday root = tuesday_with [] root

-- all calls have this lent memory
abbrev pub lent_64 : Memory
lent_64 = lent (pos 0) 0 64

-- the places of owners 1 and 3: what user 1 may read on either day, and what is public on Tuesday
abbrev pub owners_1_3 : Label
owners_1_3 = eight 4278255360

-- A chain of both days, and what it comes to: Monday shows 250 and Tuesday 2, user 1's reach gathers that of both days, in his cell at line 0
-- stands the neighbour's amount with the neighbour's place, 16, for its label, and at line 1 what Tuesday put there.
pub record Story (amount root : ℕ) (last : Answer) : Type 0 where
  pub chain : Chain
  pub first_is : chain.first ≡ monday amount
  pub later_is : chain.later ≡ tuesday root ∷ []
  pub ends : ended_with chain ≡ inl last
  pub trace_is : chain_trace user_1 chain ≡ told 250 ∷ told 2 ∷ []
  pub reach_is : chain_reach user_1 chain ≡ owners_1_3
  pub cell_is : final_cells chain 8 ≡ record { val = held (pos amount); lab = eight 65536 }
  pub next_is : final_cells chain 9 ≡ record { val = held (pos 2); lab = bottom }

-- two such chains, with other amounts of the neighbour, meet what demand 3 asks of two chains
pub record Compared (root : ℕ) (last : Answer) : Type 0 where
  pub first : Story 900 root last
  pub second : Story 40 root last
  pub differ : ChainsDifferOutside (chain_reach user_1 first.chain) first.chain second.chain

-- Monday's file with a budget that is refused: the chain shows nothing, has no reach and does not finish
pub record NotRun : Type 0 where
  pub chain : Chain
  pub first_is : chain.first ≡ monday 900
  pub later_is : chain.later ≡ tuesday 9 ∷ []
  pub ends : ended_with chain ≡ inl (Refused (refusal_of reasons.Lent 0))
  pub finishes_not : chain_finished chain ≡ false
  pub trace_is : chain_trace user_1 chain ≡ []
  pub reach_is : chain_reach user_1 chain ≡ bottom

pub record Stories : Type 0 where
  -- asked for his cell on Tuesday, the run stops with 27
  pub stops : Compared 9 (Stopped 27 6 17 8)
  -- the days finish where it is not asked for
  pub finishes : Compared 8 (Finished 7 8)
  -- the same cells with no label remembered: the neighbour's 900 is told
  pub forgotten : shown (call true (tuesday_with (cell 0 1 0 (pos 900) ∷ cell 0 2 0 (pos 900) ∷ []) 9) 100 lent_64)
      ≡ shows 0 0 17 16 (told 2 ∷ (1 ∷ 1 ∷ 0 ∷ 0 ∷ 132 ∷ 3 ∷ 0 ∷ 0 ∷ []) ∷ [])
  pub refused : NotRun
