-- `reader::inspect` meets its contract: each test is passed, or its refusal is the answer.
use mathlib.Core.Path.{sym, ◌∙◌}
use Rattle.book.specs.Refusals.{verdict}
use Rattle.book.proofs.Accepted.{length_bounds}
use Rattle.book.proofs.Verdicts.{leaves, need_met, need_passed, need_refused}
use Rattle.reader.proofs.inspect.Goals as goal

-- the length is good where its test is passed
pub mark_fits-requires : goal.mark_fits-requires
mark_fits-requires c = (length_bounds _ (need_met _ _ c.length_fits.ensures c.need.ensures c.in_ok-need.was)).0

pub sections_fit-requires : goal.sections_fit-requires
sections_fit-requires c = length_bounds _ (need_met _ _ c.length_fits.ensures c.need.ensures c.in_ok-need.was)

pub inspect_records-requires : goal.inspect_records-requires
inspect_records-requires c = record {
  length_ok = need_met _ _ c.length_fits.ensures c.need.ensures c.in_ok-need.was;
  sections_ok = need_met _ _ c.sections_fit.ensures c.need-3.ensures c.in_ok-need-3.was;
}

pub returns-in_err-need : goal.returns-in_err-need
unfolding verdict
returns-in_err-need c = leaves c.from_residual.ensures.1 (need_refused _ _ _ c.length_fits.ensures c.need.ensures c.in_err-need.was)

pub returns-in_err-need-2 : goal.returns-in_err-need-2
unfolding verdict
returns-in_err-need-2 c = leaves c.from_residual-in_err-need-2.ensures.1 (
    need_passed _ _ _ c.length_fits.ensures c.need.ensures c.in_ok-need.was
    ∙ need_refused _ _ _ c.mark_fits.ensures c.need-2.ensures c.in_err-need-2.was)

pub returns-in_err-need-3 : goal.returns-in_err-need-3
unfolding verdict
returns-in_err-need-3 c = leaves c.from_residual-in_err-need-3.ensures.1 (
    need_passed _ _ _ c.length_fits.ensures c.need.ensures c.in_ok-need.was
    ∙ need_passed _ _ _ c.mark_fits.ensures c.need-2.ensures c.in_ok-need-2.was
    ∙ need_refused _ _ _ c.sections_fit.ensures c.need-3.ensures c.in_err-need-3.was)

pub returns : goal.returns
unfolding verdict
returns c = sym (
    need_passed _ _ _ c.length_fits.ensures c.need.ensures c.in_ok-need.was
    ∙ need_passed _ _ _ c.mark_fits.ensures c.need-2.ensures c.in_ok-need-2.was
    ∙ need_passed _ _ _ c.sections_fit.ensures c.need-3.ensures c.in_ok-need-3.was
    ∙ sym c.inspect_records.ensures)
