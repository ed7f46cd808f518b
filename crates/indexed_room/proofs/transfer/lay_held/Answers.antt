-- That `lay_held` of src/transfer.rt keeps its contract.
use native.Mathlib.Omega.{arith}
use Rattle.indexed_room.proofs.TransferLaws.{held_none, held_more, held_all}
use Rattle.indexed_room.proofs.transfer.lay_held.Goals as goal

pub loop-k-init : goal.loop-k-init
loop-k-init c = (omega arith, λ f d h. held_none f d c.args.held.now h)

pub loop-k-preserved : goal.loop-k-preserved
loop-k-preserved c =
    let l = c.loop-k in
    let a = c.args in
    (omega (arith, c.loop-k-test.true), λ f d h. held_more f d a.held.now l.k _ c.loop-k-test.true c.from.ensures (l.invariant.1 f d h))

pub returns : goal.returns
returns c =
    let l = c.loop-k in
    λ f d e h. held_all f d c.args.held.now l.k e h.framed.held l.invariant.0 c.loop-k-test.false (l.invariant.1 f d h)
