-- That `put_class` of src/layout.rt keeps its contract.
use mathlib.Core.Path.{ap}
use Prim.Native.Nat.{◌+◌}
use native.Mathlib.Omega.{arith}
use lib.ListN.{set}
use Rattle.words.proofs.CountingLaws.{upto-none, upto-more, upto_done}
use Rattle.aic_room.proofs.layout.put_class.Goals as goal

pub loop-q-init : goal.loop-q-init
loop-q-init c = (omega arith, upto-none _ _)

pub loop-q-preserved : goal.loop-q-preserved
loop-q-preserved c =
    let l = c.loop-q in
    (omega arith, upto-more _ _ _ l.invariant.1 (ap (set l.room (32 + l.q)) c.with_bit-w.ensures))

pub returns : goal.returns
returns c = upto_done _ _ _ 8 c.loop-q.invariant.0 c.loop-q-test.false c.loop-q.invariant.1
