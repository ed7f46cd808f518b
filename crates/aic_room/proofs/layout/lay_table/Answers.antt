-- That `lay_table` of src/layout.rt keeps its contract.
use mathlib.Core.Path.{ap, ◌∙◌}
use Prim.Native.Nat.{◌+◌}
use native.Mathlib.Omega.{arith}
use lib.ListN.{set}
use Rattle.words.proofs.CountingLaws.{upto-none, upto-more, upto_done}
use Rattle.aic_room.proofs.layout.lay_table.Goals as goal

pub loop-b-init : goal.loop-b-init
loop-b-init c = (omega arith, upto-none _ _)

pub loop-b-preserved : goal.loop-b-preserved
loop-b-preserved c =
    let l = c.loop-b in
    (omega arith, upto-more _ _ _ l.invariant.1 (ap (set l.room (256 + l.b)) (c.from.ensures ∙ c.highest-level.ensures)))

pub returns : goal.returns
returns c = upto_done _ _ _ 256 c.loop-b.invariant.0 c.loop-b-test.false c.loop-b.invariant.1
