-- `commands::label_all` meets its contract: the labels passed are stored.
use mathlib.Core.Path.{◌≡◌, refl, sym}
use mathlib.Core.List.{List, []}
use lib.ListN.{length, replicate, length-replicate, get_or-replicate}
use native.Mathlib.Omega.{arith}
use Rattle.monitor.specs.Labelled.{Label}
use Rattle.places.proofs.Loops.{fill_turn, fill_end}
use Rattle.commands.proofs.label_all.Goals as goal

pub loop-p-init : goal.loop-p-init
loop-p-init c = refl

pub loop-p-preserved : goal.loop-p-preserved
loop-p-preserved c =
    let all : List Label = replicate 16 c.args.label.now in
    let long : length all ≡ 16 = length-replicate 16 c.args.label.now in
    fill_turn all _ c.loop-p.p c.loop-p.labels _ [] (omega arith) (omega arith) (sym (get_or-replicate 16 c.loop-p.p c.args.label.now [] (omega arith))) c.loop-p.invariant

pub returns : goal.returns
returns c =
    let all : List Label = replicate 16 c.args.label.now in
    let long : length all ≡ 16 = length-replicate 16 c.args.label.now in
    fill_end all _ c.loop-p.p c.loop-p.labels (omega arith) (omega arith) c.loop-p.invariant
