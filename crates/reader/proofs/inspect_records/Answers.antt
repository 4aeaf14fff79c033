-- `reader::inspect_records` meets its contract: each section is passed, or its first bad record is the answer.
use mathlib.Core.Path.{sym, ◌∙◌}
use Rattle.book.proofs.Verdicts.{passed, refused, leaves, no_bad, blamed, counted}
use Rattle.reader.proofs.inspect_records.Goals as goal

pub returns-in_err-blame : goal.returns-in_err-blame
returns-in_err-blame c = leaves c.from_residual.ensures.1 (
    counted _
    ∙ refused _ _ _ _ c.first_bad_cell.ensures c.blame.ensures c.in_err-blame.was)

pub returns-in_err-blame-2 : goal.returns-in_err-blame-2
returns-in_err-blame-2 c = leaves c.from_residual-in_err-blame-2.ensures.1 (
    counted _
    ∙ passed _ _ _ _ c.first_bad_cell.ensures c.blame.ensures c.in_ok-blame.was
    ∙ refused _ _ _ _ c.first_bad_region.ensures c.blame-2.ensures c.in_err-blame-2.was)

pub returns-in_err-blame-3 : goal.returns-in_err-blame-3
returns-in_err-blame-3 c = leaves c.from_residual-in_err-blame-3.ensures.1 (
    counted _
    ∙ passed _ _ _ _ c.first_bad_cell.ensures c.blame.ensures c.in_ok-blame.was
    ∙ passed _ _ _ _ c.first_bad_region.ensures c.blame-2.ensures c.in_ok-blame-2.was
    ∙ refused _ _ _ _ c.first_bad_right.ensures c.blame-3.ensures c.in_err-blame-3.was)

pub returns-in_err-blame-4 : goal.returns-in_err-blame-4
returns-in_err-blame-4 c = leaves c.from_residual-in_err-blame-4.ensures.1 (
    counted _
    ∙ passed _ _ _ _ c.first_bad_cell.ensures c.blame.ensures c.in_ok-blame.was
    ∙ passed _ _ _ _ c.first_bad_region.ensures c.blame-2.ensures c.in_ok-blame-2.was
    ∙ passed _ _ _ _ c.first_bad_right.ensures c.blame-3.ensures c.in_ok-blame-3.was
    ∙ refused _ _ _ _ c.first_bad_node.ensures c.blame-4.ensures c.in_err-blame-4.was)

pub returns-in_err-blame-5 : goal.returns-in_err-blame-5
returns-in_err-blame-5 c = leaves c.from_residual-in_err-blame-5.ensures.1 (
    counted _
    ∙ passed _ _ _ _ c.first_bad_cell.ensures c.blame.ensures c.in_ok-blame.was
    ∙ passed _ _ _ _ c.first_bad_region.ensures c.blame-2.ensures c.in_ok-blame-2.was
    ∙ passed _ _ _ _ c.first_bad_right.ensures c.blame-3.ensures c.in_ok-blame-3.was
    ∙ passed _ _ _ _ c.first_bad_node.ensures c.blame-4.ensures c.in_ok-blame-4.was
    ∙ refused _ _ _ _ c.first_bad_program.ensures c.blame-5.ensures c.in_err-blame-5.was)

pub returns-in_err-blame-6 : goal.returns-in_err-blame-6
returns-in_err-blame-6 c = leaves c.from_residual-in_err-blame-6.ensures.1 (
    counted _
    ∙ passed _ _ _ _ c.first_bad_cell.ensures c.blame.ensures c.in_ok-blame.was
    ∙ passed _ _ _ _ c.first_bad_region.ensures c.blame-2.ensures c.in_ok-blame-2.was
    ∙ passed _ _ _ _ c.first_bad_right.ensures c.blame-3.ensures c.in_ok-blame-3.was
    ∙ passed _ _ _ _ c.first_bad_node.ensures c.blame-4.ensures c.in_ok-blame-4.was
    ∙ passed _ _ _ _ c.first_bad_program.ensures c.blame-5.ensures c.in_ok-blame-5.was
    ∙ refused _ _ _ _ c.first_bad_trigger.ensures c.blame-6.ensures c.in_err-blame-6.was)

-- the search for a bad node found none
pub first_bad_trigger-requires-clause-file_value : goal.first_bad_trigger-requires-clause-file_value
first_bad_trigger-requires-clause-file_value c = no_bad _ _ _ c.first_bad_node.ensures c.blame-4.ensures c.in_ok-blame-4.was

pub returns : goal.returns
returns c = sym (
    counted _
    ∙ passed _ _ _ _ c.first_bad_cell.ensures c.blame.ensures c.in_ok-blame.was
    ∙ passed _ _ _ _ c.first_bad_region.ensures c.blame-2.ensures c.in_ok-blame-2.was
    ∙ passed _ _ _ _ c.first_bad_right.ensures c.blame-3.ensures c.in_ok-blame-3.was
    ∙ passed _ _ _ _ c.first_bad_node.ensures c.blame-4.ensures c.in_ok-blame-4.was
    ∙ passed _ _ _ _ c.first_bad_program.ensures c.blame-5.ensures c.in_ok-blame-5.was
    ∙ passed _ _ _ _ c.first_bad_trigger.ensures c.blame-6.ensures c.in_ok-blame-6.was
    ∙ blamed _ _ _ c.first_bad_label.ensures c.blame-7.ensures)
