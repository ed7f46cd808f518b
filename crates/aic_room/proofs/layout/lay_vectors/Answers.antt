-- That `lay_vectors` of src/layout.rt keeps its contract.
use mathlib.Core.Path.{refl}
use native.Mathlib.Omega.{arith}
use Rattle.words.proofs.CountingLaws.{upto-none, upto-more, upto_done}
use Rattle.aic_room.proofs.layout.lay_vectors.Goals as goal

pub loop-k-init : goal.loop-k-init
loop-k-init c = (omega arith, upto-none _ _)

pub loop-k-preserved : goal.loop-k-preserved
loop-k-preserved c = (omega arith, upto-more _ _ _ c.loop-k.invariant.1 refl)

pub returns : goal.returns
returns c = upto_done _ _ _ 32 c.loop-k.invariant.0 c.loop-k-test.false c.loop-k.invariant.1
