-- That `lay_fiqs` of src/layout.rt keeps its contract.
use mathlib.Core.Path.{ap}
use Prim.Native.Nat.{◌+◌}
use native.Mathlib.Omega.{arith}
use lib.ListN.{set}
use Rattle.words.proofs.CountingLaws.{upto-none, upto-more, upto_done}
use Rattle.aintc_room.proofs.layout.lay_fiqs.Goals as goal

pub loop-n-init : goal.loop-n-init
loop-n-init c = (omega arith, upto-none _ _)

pub route_word-w-requires : goal.route_word-w-requires
route_word-w-requires c = omega (arith, c.loop-n-test.true)

pub loop-n-preserved : goal.loop-n-preserved
loop-n-preserved c = let l = c.loop-n in (omega arith, upto-more _ _ _ l.invariant.1 (ap (set l.room (28 + l.n)) c.route_word-w.ensures))

pub returns : goal.returns
returns c = upto_done _ _ _ 4 c.loop-n.invariant.0 c.loop-n-test.false c.loop-n.invariant.1
