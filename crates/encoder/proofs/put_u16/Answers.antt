-- `encoder::put_u16` meets its contract: two bytes are stored.
use lib.ListN.{length-set}
use native.Mathlib.Omega.{arith}
use Rattle.encoder.proofs.Stores.{two_stores}
use Rattle.encoder.proofs.put_u16.Goals as goal

pub bounds-out-at-2 : goal.bounds-out-at-2
bounds-out-at-2 c = simp length-set (omega arith)

pub returns : goal.returns
returns c = two_stores c.args.out.now c.args.at _ _ c.requires
