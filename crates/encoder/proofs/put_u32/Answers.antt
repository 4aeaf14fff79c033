-- `encoder::put_u32` meets its contract: four bytes are stored.
use lib.ListN.{length-set}
use native.Mathlib.Omega.{arith}
use Rattle.encoder.proofs.Stores.{four_stores}
use Rattle.encoder.proofs.put_u32.Goals as goal

pub bounds-out-at-2 : goal.bounds-out-at-2
bounds-out-at-2 c = simp length-set (omega arith)

pub bounds-out-at-3 : goal.bounds-out-at-3
bounds-out-at-3 c = simp length-set (omega arith)

pub bounds-out-at-4 : goal.bounds-out-at-4
bounds-out-at-4 c = simp length-set (omega arith)

pub returns : goal.returns
returns c = four_stores c.args.out.now c.args.at _ _ _ _ c.requires
