-- That `fill` of src/effects.rt keeps its contract.
use mathlib.Core.Path.{refl}
use native.Mathlib.Omega.{arith}
use Rattle.words.proofs.CountingLaws.{upto-none, upto-more, upto_done}
use Rattle.aintc_room.proofs.effects.fill.Goals as goal

pub loop-k-init : goal.loop-k-init
loop-k-init c = (omega arith, upto-none _ _)

pub loop-k-preserved : goal.loop-k-preserved
loop-k-preserved c = let l = c.loop-k in (omega (arith, c.loop-k-test.true), upto-more _ _ _ l.invariant.1 refl)

pub returns : goal.returns
returns c = upto_done _ _ _ c.args.n c.loop-k.invariant.0 c.loop-k-test.false c.loop-k.invariant.1
