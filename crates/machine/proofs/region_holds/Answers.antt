-- `machine::region_holds` meets its contract.
use mathlib.Core.Path.{sym, ap, ◌∙◌}
use lib.ListN.{get_or}
use borrow.Author.Tests.{lt-ltb}
use Rattle.regions.specs.Regions.{in_region}
use Rattle.regions.specs.declared.Region.{Region}
use Rattle.regions.proofs.Regions.{has_region}
use Rattle.book.specs.Records.{region_of}
use Rattle.book.specs.Refusals.{no_region}
use Rattle.monitor.specs.Rules.{region_places}
use Rattle.machine.specs.Script.{script_of}
use Rattle.machine.proofs.region_holds.Goals as goal

pub returns : goal.returns
unfolding region_places
returns c =
    let s = c.before.before in
    let region = region_of (get_or (script_of s.args.script.bytes.now).regions s.args.region no_region) in
    c.holds.ensures
    ∙ ap (λ (r : Region). in_region r s.args.place) c.before.region_of.ensures.0
    ∙ sym (rw (lt-ltb s.args.place 512 s.requires.1) at (has_region 8 region s.args.place))
