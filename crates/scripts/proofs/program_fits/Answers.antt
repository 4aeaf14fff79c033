-- `scripts::program_fits` meets its contract: the tests in their order.
use mathlib.Core.Path.{sym, ap, ◌∙◌}
use borrow.Author.Tests.{eq-eqb, ne_eqb, le-leb, lt-leb}
use Rattle.book.specs.Records.{programs_format}
use Rattle.book.specs.Layout.{decode}
use Rattle.book.specs.Refusals.{is_command, program_fits}
use Rattle.book.proofs.Chains.{pass, fail}
use Rattle.scripts.proofs.program_fits.Goals as goal

pub returns-then-file-at-gt7 : goal.returns-then-file-at-gt7
unfolding program_fits programs_format
returns-then-file-at-gt7 c = sym (fail _ (lt-leb _ _ c.if-file-at-gt7.true))

pub returns-then-file-at-ne0 : goal.returns-then-file-at-ne0
unfolding program_fits programs_format
returns-then-file-at-ne0 c = sym (pass (le-leb _ _ c.before.before.if-file-at-gt7.false) (fail _ (ne_eqb _ _ c.if-file-at-ne0.true)))

pub returns : goal.returns
unfolding program_fits programs_format
returns c =
    let t = c.before.before.before in
    let root = ap (is_command (decode _)) c.before.u16_at.ensures.0 in
    sym (pass (le-leb _ _ t.before.before.if-file-at-gt7.false) (pass (eq-eqb _ _ t.if-file-at-ne0.false) (sym (c.is_command.ensures ∙ root))))
