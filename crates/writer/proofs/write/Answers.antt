-- `writer::write` meets its contract: each way out leaves what the call is defined to leave.
use mathlib.Core.Path.{refl, sym, ◌∙◌}
use borrow.Author.Tests.{leb-true}
use Rattle.book.proofs.Verdicts.{need_met, need_passed, need_refused}
use Rattle.loader.proofs.Calls.{lengths}
use Rattle.writer.proofs.Calls.{write_refused, write_accepted}
use Rattle.writer.proofs.write.Goals as goal

pub returns-in_err-need : goal.returns-in_err-need
returns-in_err-need c = write_refused _ _ _ _ _ (need_refused _ _ _ c.lent_fits.ensures c.need.ensures c.in_err-need.was) c.from_residual.ensures.1

pub returns-in_err-need-2 : goal.returns-in_err-need-2
returns-in_err-need-2 c =
    write_refused _ _ _ _ _ (
    need_passed _ _ _ c.lent_fits.ensures c.need.ensures c.in_ok-need.was
    ∙ need_refused _ _ _ refl c.need-2.ensures c.in_err-need-2.was)
    c.from_residual-in_err-need-2.ensures.1

pub returns-in_err-inspect : goal.returns-in_err-inspect
returns-in_err-inspect c =
    write_refused _ _ _ _ _ (
    need_passed _ _ _ c.lent_fits.ensures c.need.ensures c.in_ok-need.was
    ∙ need_passed _ _ _ refl c.need-2.ensures c.in_ok-need-2.was
    ∙ sym c.inspect.ensures ∙ c.in_err-inspect.was)
    c.from_residual-in_err-inspect.ensures.1

pub write_book-requires : goal.write_book-requires
write_book-requires c =
    let l = lengths c.args.amounts.now c.args.presence.now c.args.labels.now (need_met _ _ c.lent_fits.ensures c.need.ensures c.in_ok-need.was) in
    (sym c.inspect.ensures ∙ c.in_ok-inspect.was, l.amounts_are, l.presence_is, l.labels_are, leb-true _ _ (need_met _ _ refl c.need-2.ensures c.in_ok-need-2.was))

pub returns : goal.returns
returns c =
    write_accepted _ _ _ _ _ (
    need_passed _ _ _ c.lent_fits.ensures c.need.ensures c.in_ok-need.was
    ∙ need_passed _ _ _ refl c.need-2.ensures c.in_ok-need-2.was
    ∙ sym c.inspect.ensures ∙ c.in_ok-inspect.was)
    c.write_book.ensures.0
    c.write_book.ensures.1
