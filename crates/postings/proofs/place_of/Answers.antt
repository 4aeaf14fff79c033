-- `postings::place_of` meets its contract.
use native.Mathlib.Omega.{arith}
use mir.Syntax.{w32}
use mir.Val.{to_z, of_z}
use mir.Facts.{to_z-of_z}
use Rattle.monitor.specs.Rules.{key_place}
use Rattle.postings.proofs.Keys.{key_digits, Cast, cast}
use Rattle.postings.proofs.place_of.Goals as goal
use Rattle.postings.proofs.place_of.Goals.{Start}

owner : (c : Start) → Cast (to_z w32 (of_z w32 c.args.owner)) c.args.owner
owner c = cast _ c.args.owner (to_z-of_z c.ranges.owner) (key_digits c.args.owner c.args.line c.requires.1).0

line : (c : Start) → Cast (to_z w32 (of_z w32 c.args.line)) c.args.line
line c = cast _ c.args.line (to_z-of_z c.ranges.line) (key_digits c.args.owner c.args.line c.requires.1).1

pub overflow_cast-result : goal.overflow_cast-result
overflow_cast-result c = ((owner c).not_negative, omega (arith, (owner c).below))

pub overflow_mul-result-2 : goal.overflow_mul-result-2
overflow_mul-result-2 c = omega (arith, (owner c).below)

pub overflow_add-result : goal.overflow_add-result
overflow_add-result c = omega (arith, (owner c).below)

pub overflow_cast-result-2 : goal.overflow_cast-result-2
overflow_cast-result-2 c = ((line c).not_negative, omega (arith, (line c).below))

pub overflow_add-result-2 : goal.overflow_add-result-2
overflow_add-result-2 c = omega (arith, (owner c).below, (line c).below)

pub returns : goal.returns
unfolding key_place
returns c = (rw ((owner c).is, (line c).is), omega (arith, (owner c).below, (line c).below))
