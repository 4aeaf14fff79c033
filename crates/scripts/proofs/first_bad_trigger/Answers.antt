-- `scripts::first_bad_trigger` meets its contract: no trigger before the one that is tested is bad.
use mathlib.Core.Path.{◌≡◌, sym, ap, ◌∙◌}
use mathlib.Core.Bool.{Bool, not}
use mathlib.Core.List.{List}
use Prim.Native.Nat.{ℕ, ◌+◌, ◌*◌, ◌<◌}
use native.Mathlib.Omega.{arith}
use lib.Dec.{lit<}
use Rattle.book.specs.Records.{TriggerRecord, triggers_format}
use Rattle.book.specs.Layout.{count, section, decode}
use Rattle.book.specs.Refusals.{Laid, trigger_fits, bad_trigger}
use Rattle.book.specs.declared.Section.{Section}
use Rattle.book.proofs.First.{none_yet, none_next, first_bad_found, first_bad_none}
use Rattle.kinds.proofs.Sites.{Inside, pair_inside}
use Rattle.scripts.proofs.Sites.{trigger_is, trigger_inside}
use Rattle.scripts.proofs.first_bad_trigger.Goals as goal

pub section_at-regions-requires : goal.section_at-regions-requires
section_at-regions-requires c = pair_inside _ c.requires.laid 1 (lit< tt)

pub section_at-nodes-requires : goal.section_at-nodes-requires
section_at-nodes-requires c = pair_inside _ c.requires.laid 3 (lit< tt)

pub section_at-triggers-requires : goal.section_at-triggers-requires
section_at-triggers-requires c = pair_inside _ c.requires.laid 5 (lit< tt)

pub reaching_flags-flags-requires : goal.reaching_flags-flags-requires
reaching_flags-flags-requires c = record { laid = (c.requires.laid, c.section_at-nodes.ensures); file_value = c.requires.file_value }

pub loop-trigger-init : goal.loop-trigger-init
loop-trigger-init c = (omega arith, none_yet _)

-- the trigger that is tested is there, and its record lies in the file
module _ {file : List ℕ} (laid : Laid file) {triggers : Section} (is : triggers ≡ section file 5) {n : ℕ} (test : n < triggers.count) where
  there : n < count file 5
  there =
      let e = ap (λ (x : Section). x.count) is in
      rw e at test

  inside : Inside file (triggers.start + 8 * n) 8
  inside = trigger_inside _ _ _ laid is there

  -- whether it is bad, from the call's answer
  said : {fits : Bool} → fits ≡ trigger_fits (decode file) (triggers_format.read file (triggers.start + 8 * n)) → bad_trigger (decode file) n ≡ not fits
  unfolding bad_trigger
  said e = ap (λ (x : TriggerRecord). not (trigger_fits (decode file) x)) (trigger_is file _ _ is there) ∙ sym (ap not e)

pub overflow_mul-at : goal.overflow_mul-at
overflow_mul-at c = omega (arith, inside c.requires.laid c.section_at-triggers.ensures c.loop-trigger-test.true)

pub overflow_add-at : goal.overflow_add-at
overflow_add-at c = omega (arith, inside c.requires.laid c.section_at-triggers.ensures c.loop-trigger-test.true)

pub trigger_fits-requires : goal.trigger_fits-requires
trigger_fits-requires c =
    let regions = ap (λ (x : Section). x.count) c.section_at-regions.ensures in
    record {
      laid = (c.requires.laid, c.section_at-nodes.ensures, regions, (inside c.requires.laid c.section_at-triggers.ensures c.loop-trigger-test.true).end);
      by_index = c.reaching_flags-flags.ensures;
    }

pub returns-then-not-trigger_fits : goal.returns-then-not-trigger_fits
returns-then-not-trigger_fits c =
    let here = c.section_at-triggers.ensures in
    sym (first_bad_found _ _ _ (there c.requires.laid here c.loop-trigger-test.true) c.loop-trigger.invariant.1
    (said c.requires.laid here c.loop-trigger-test.true c.trigger_fits.ensures ∙ c.if-not-trigger_fits.true-raw))

pub loop-trigger-preserved : goal.loop-trigger-preserved
loop-trigger-preserved c = (
  omega (arith, c.loop-trigger-test.true),
  none_next _ _ c.loop-trigger.invariant.1
      (said c.requires.laid c.section_at-triggers.ensures c.loop-trigger-test.true c.trigger_fits.ensures ∙ c.if-not-trigger_fits.false-raw),
)

pub returns : goal.returns
returns c =
    let e = ap (λ (x : Section). x.count) c.section_at-triggers.ensures in
    let n : c.loop-trigger.trigger ≡ count c.args.file.now 5 = omega (arith, e, c.loop-trigger-test.false, c.loop-trigger.invariant.0) in
    sym (first_bad_none _ _ (rw n at c.loop-trigger.invariant.1))
