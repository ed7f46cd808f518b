-- That `lay_bytes` of src/layout.rt keeps its contract.
use mathlib.Core.Path.{ap}
use Prim.Native.Nat.{◌+◌}
use native.Mathlib.Omega.{arith}
use lib.ListN.{set}
use Rattle.words.proofs.CountingLaws.{upto-none, upto-more, upto_done}
use Rattle.aic_room.proofs.layout.lay_bytes.Goals as goal

pub loop-k-init : goal.loop-k-init
loop-k-init g c = (omega arith, upto-none _ _)

pub loop-k-preserved : goal.loop-k-preserved
loop-k-preserved g c =
    let l = c.loop-k in
    (omega arith, upto-more _ _ _ l.invariant.1 (ap (set l.room (c.args.at + l.k)) c.from.ensures))

pub returns : goal.returns
returns g c = upto_done _ _ _ g.row.N c.loop-k.invariant.0 c.loop-k-test.false c.loop-k.invariant.1
