-- `scripts::first_bad_program` meets its contract: no program before the one that is tested is bad.
use mathlib.Core.Path.{◌≡◌, sym, ap, ◌∙◌}
use mathlib.Core.Bool.{Bool, not}
use mathlib.Core.List.{List}
use Prim.Native.Nat.{ℕ, ◌+◌, ◌*◌, ◌<◌}
use native.Mathlib.Omega.{arith}
use lib.Dec.{lit<}
use Rattle.book.specs.Records.{ProgramRecord, programs_format}
use Rattle.book.specs.Layout.{count, section, decode}
use Rattle.book.specs.Refusals.{Laid, program_fits, bad_program}
use Rattle.book.specs.declared.Section.{Section}
use Rattle.book.proofs.First.{none_yet, none_next, first_bad_found, first_bad_none}
use Rattle.kinds.proofs.Sites.{Inside, pair_inside}
use Rattle.scripts.proofs.Sites.{program_is, program_inside}
use Rattle.scripts.proofs.first_bad_program.Goals as goal

pub section_at-nodes-requires : goal.section_at-nodes-requires
section_at-nodes-requires c = pair_inside _ c.before.requires 3 (lit< tt)

pub section_at-programs-requires : goal.section_at-programs-requires
section_at-programs-requires c = pair_inside _ c.before.before.requires 4 (lit< tt)

pub loop-program-init : goal.loop-program-init
loop-program-init c = (omega arith, none_yet _)

-- the program that is tested is there, and its record lies in the file
module _ {file : List ℕ} (laid : Laid file) {programs : Section} (is : programs ≡ section file 4) {n : ℕ} (test : n < programs.count) where
  there : n < count file 4
  there =
      let e = ap (λ (x : Section). x.count) is in
      rw e at test

  inside : Inside file (programs.start + 4 * n) 4
  inside = program_inside _ _ _ laid is there

  -- whether it is bad, from the call's answer
  said : {fits : Bool} → fits ≡ program_fits (decode file) (programs_format.read file (programs.start + 4 * n)) → bad_program (decode file) n ≡ not fits
  unfolding bad_program
  said e = ap (λ (p : ProgramRecord). not (program_fits (decode file) p)) (program_is file _ _ is there) ∙ sym (ap not e)

pub overflow_mul-at : goal.overflow_mul-at
overflow_mul-at c = omega (arith, inside c.requires c.section_at-programs.ensures c.loop-program-test.true)

pub overflow_add-at : goal.overflow_add-at
overflow_add-at c = omega (arith, inside c.requires c.section_at-programs.ensures c.loop-program-test.true)

pub program_fits-requires : goal.program_fits-requires
program_fits-requires c = (c.requires, c.section_at-nodes.ensures, (inside c.requires c.section_at-programs.ensures c.loop-program-test.true).end)

pub returns-then-not-program_fits : goal.returns-then-not-program_fits
returns-then-not-program_fits c =
    let here = c.section_at-programs.ensures in
    sym (first_bad_found _ _ _ (there c.requires here c.loop-program-test.true) c.loop-program.invariant.1
    (said c.requires here c.loop-program-test.true c.program_fits.ensures ∙ c.if-not-program_fits.true-raw))

pub loop-program-preserved : goal.loop-program-preserved
loop-program-preserved c = (
  omega arith,
  none_next _ _ c.loop-program.invariant.1
      (said c.requires c.section_at-programs.ensures c.loop-program-test.true c.program_fits.ensures ∙ c.if-not-program_fits.false-raw),
)

pub returns : goal.returns
returns c =
    let e = ap (λ (x : Section). x.count) c.section_at-programs.ensures in
    let n : c.loop-program.program ≡ count c.args.file.now 4 = omega (arith, e) in
    sym (first_bad_none _ _ (rw n at c.loop-program.invariant.1))
