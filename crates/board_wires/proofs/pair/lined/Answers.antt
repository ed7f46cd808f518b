-- That `lined` of src/pair.rt keeps its contract.
use Rattle.board_wires.specs.Pair.{lined}
use Rattle.board_wires.proofs.PairLaws.{lined-none, lined-more}
use Rattle.words.proofs.CountingLaws.{at_end}
use native.Mathlib.Omega.{arith}
use Rattle.board_wires.proofs.pair.lined.Goals as goal

pub loop-i-init : goal.loop-i-init
loop-i-init c = (omega arith, lined-none _ _)

pub loop-i-preserved : goal.loop-i-preserved
loop-i-preserved c = (
  omega (arith, c.loop-i-test.true),
  lined-more _ _ _ _ _ _ c.loop-i.invariant.1 c.has.ensures c.moved-x.ensures,
)

pub returns : goal.returns
returns c = at_end (lined _ _) _ _ c.loop-i.invariant.0 c.loop-i-test.false c.loop-i.invariant.1
