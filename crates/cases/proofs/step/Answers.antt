-- `cases::step` meets its contract: what it read fits the buffers.
use mathlib.Core.Path.{refl, sym}
use Rattle.cases.proofs.step.Goals as goal

pub slice_bounds-read-end : goal.slice_bounds-read-end
slice_bounds-read-end c = refl

pub slice_bounds-read-end-2 : goal.slice_bounds-read-end-2
slice_bounds-read-end-2 c = refl

pub read-requires : goal.read-requires
read-requires c = (refl, refl)

pub returns-then-not-read : goal.returns-then-not-read
returns-then-not-read c = tt

pub slice_bounds-case_in-end : goal.slice_bounds-case_in-end
slice_bounds-case_in-end c = sym c.read.auto.header

pub slice_bounds-case_in-end-2 : goal.slice_bounds-case_in-end-2
slice_bounds-case_in-end-2 c = sym c.read.auto.file

pub slice_bounds-case_in-end-3 : goal.slice_bounds-case_in-end-3
slice_bounds-case_in-end-3 c = refl

pub slice_bounds-case_in-end-4 : goal.slice_bounds-case_in-end-4
slice_bounds-case_in-end-4 c = refl

pub slice_bounds-case_in-end-5 : goal.slice_bounds-case_in-end-5
slice_bounds-case_in-end-5 c = refl

pub slice_bounds-case_in-end-6 : goal.slice_bounds-case_in-end-6
slice_bounds-case_in-end-6 c = refl

pub case_in-requires : goal.case_in-requires
case_in-requires c = (c.read.auto.header, c.read.ensures c.if-not-read.false, c.read.auto.file, refl, refl, refl, refl)

pub returns : goal.returns
returns c = tt
