-- That `lay_four` of src/layout.rt keeps its contract.
use mathlib.Core.Path.{refl}
use native.Mathlib.Omega.{arith}
use Rattle.words.proofs.CountingLaws.{upto-none, upto-more, upto_done}
use Rattle.aintc_room.proofs.layout.lay_four.Goals as goal

pub loop-k-init : goal.loop-k-init
loop-k-init c = (omega arith, upto-none _ _)

pub loop-k-preserved : goal.loop-k-preserved
loop-k-preserved c = let l = c.loop-k in (omega arith, upto-more _ _ _ l.invariant.1 refl)

pub returns : goal.returns
returns c = upto_done _ _ _ 4 c.loop-k.invariant.0 c.loop-k-test.false c.loop-k.invariant.1
