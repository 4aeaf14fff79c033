-- `loader::load` meets its contract: each way out leaves what the call is defined to leave.
use mathlib.Core.Path.{sym, ◌∙◌}
use native.Mathlib.Omega.{arith}
use Rattle.book.proofs.Verdicts.{need_met, need_passed, need_refused}
use Rattle.loader.proofs.Calls.{lengths, load_refused, load_accepted}
use Rattle.loader.proofs.load.Goals as goal

pub returns-in_err-need : goal.returns-in_err-need
returns-in_err-need c = load_refused _ _ _ _ (need_refused _ _ _ c.lent_fits.ensures c.need.ensures c.in_err-need.was) c.from_residual.ensures.1

pub returns-in_err-inspect : goal.returns-in_err-inspect
returns-in_err-inspect c =
    load_refused _ _ _ _ (need_passed _ _ _ c.lent_fits.ensures c.need.ensures c.in_ok-need.was ∙ sym c.inspect.ensures ∙ c.in_err-inspect.was) c.from_residual-in_err-inspect.ensures.1

pub load_cells-set-requires : goal.load_cells-set-requires
load_cells-set-requires c =
    (sym c.inspect.ensures ∙ c.in_ok-inspect.was, (lengths c.args.amounts.now c.args.presence.now c.args.labels.now (need_met _ _ c.lent_fits.ensures c.need.ensures c.in_ok-need.was)).amounts_are)

pub copy-requires : goal.copy-requires
copy-requires c = omega (arith, (lengths c.args.amounts.now c.args.presence.now c.args.labels.now (need_met _ _ c.lent_fits.ensures c.need.ensures c.in_ok-need.was)).presence_is)

pub load_labels-requires : goal.load_labels-requires
load_labels-requires c =
    (sym c.inspect.ensures ∙ c.in_ok-inspect.was, (lengths c.args.amounts.now c.args.presence.now c.args.labels.now (need_met _ _ c.lent_fits.ensures c.need.ensures c.in_ok-need.was)).labels_are)

pub returns : goal.returns
returns c =
    load_accepted _ _ _ _ _ _ _ (need_passed _ _ _ c.lent_fits.ensures c.need.ensures c.in_ok-need.was ∙ sym c.inspect.ensures ∙ c.in_ok-inspect.was)
    c.load_cells-set.ensures.0
    (c.copy.ensures ∙ c.load_cells-set.ensures.1)
    c.load_labels.ensures
