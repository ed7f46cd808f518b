-- That `lay_bits` of src/layout.rt keeps its contract.
use mathlib.Core.Path.{ap}
use Prim.Native.Nat.{◌+◌}
use native.Mathlib.Omega.{arith}
use lib.ListN.{set}
use Rattle.words.proofs.CountingLaws.{upto-none, upto-more, upto_done}
use Rattle.aintc_room.proofs.layout.lay_bits.Goals as goal

pub loop-j-init : goal.loop-j-init
loop-j-init c = (omega arith, upto-none _ _)

pub loop-j-preserved : goal.loop-j-preserved
loop-j-preserved c = let l = c.loop-j in (omega arith, upto-more _ _ _ l.invariant.1 (ap (set l.room (32 + l.j)) c.priority_word-w.ensures))

pub returns : goal.returns
returns c = upto_done _ _ _ 28 c.loop-j.invariant.0 c.loop-j-test.false c.loop-j.invariant.1
