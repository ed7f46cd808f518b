-- That `values_in` of src/pair.rt keeps its contract.
use Rattle.board_wires.proofs.PairLaws.{first-none, first_more, first-all}
use native.Mathlib.Omega.{arith}
use Rattle.board_wires.proofs.pair.values_in.Goals as goal

pub loop-i-init : goal.loop-i-init
loop-i-init c = (omega arith, first-none _ _ _ _ _)

pub place-requires : goal.place-requires
place-requires c = omega (arith, c.inputs-n.ensures.1, c.loop-i-test.true)

pub loop-i-preserved : goal.loop-i-preserved
loop-i-preserved c = (
  omega (arith, c.loop-i-test.true),
  first_more _ _ _ _ _ _ _ _ _ _ _ (omega (arith, c.inputs-n.ensures.1, c.loop-i-test.true)) c.loop-i.invariant.1 c.place.ensures c.wire_in-at.ensures c.carried.ensures c.with_bit-w.ensures,
)

pub returns : goal.returns
returns c = first-all _ _ _ _ _ _ _ _ c.loop-i.invariant.0 c.loop-i-test.false c.inputs-n.ensures.0 c.loop-i.invariant.1
