-- That `chain` of src/chain.rt, which calls itself for lower numbers, keeps its contract.
use Rattle.board_wires.proofs.ChainLaws.{chain-most, no-chain, one-chain, all-chains}
use native.Mathlib.Omega.{arith}
use Rattle.board_wires.proofs.chain.+chain.Goals as goal

pub loop-d-init : goal.loop-d-init
loop-d-init t c = (omega arith, no-chain _ _)

pub chain-below-requires : goal.chain-below-requires
chain-below-requires t c = (omega (arith, c.decreases, c.lower-n.ensures.1, c.loop-d-test.true), tt)

pub counted-requires : goal.counted-requires
counted-requires t c = omega (arith, c.chain-below.ensures, chain-most c.args.b c.loop-d.d, c.loop-d-test.true, c.lower-n.ensures.2)

pub loop-d-preserved : goal.loop-d-preserved
loop-d-preserved t c = (
  omega (arith, c.loop-d-test.true),
  one-chain _ _ _ _ _ _ _ _ (omega (arith, c.loop-d-test.true, c.lower-n.ensures.1)) c.loop-d.invariant.1 c.chain-below.ensures c.is_fed.ensures c.counted.ensures c.larger-most.ensures,
)

pub returns : goal.returns
returns t c = all-chains _ _ _ _ _ c.loop-d.invariant.0 c.loop-d-test.false c.lower-n.ensures.0 c.loop-d.invariant.1
