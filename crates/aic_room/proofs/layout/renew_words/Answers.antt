-- That `renew_words` of src/layout.rt keeps its contract.
use mathlib.Core.Path.{ap}
use Prim.Native.Nat.{◌+◌}
use native.Mathlib.Omega.{arith}
use lib.ListN.{set}
use Rattle.words.proofs.CountingLaws.{upto-none, upto-more, upto_done}
use Rattle.aic_room.proofs.layout.renew_words.Goals as goal

pub loop-p-init : goal.loop-p-init
loop-p-init c = (omega arith, upto-none _ _)

pub loop-p-preserved : goal.loop-p-preserved
loop-p-preserved c =
    let l = c.loop-p in
    (omega arith, upto-more _ _ _ l.invariant.1 (ap (set l.room (24 + l.p)) c.meet-w.ensures))

pub returns : goal.returns
returns c = upto_done _ _ _ 8 c.loop-p.invariant.0 c.loop-p-test.false c.loop-p.invariant.1
