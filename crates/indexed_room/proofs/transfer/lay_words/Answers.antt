-- That `lay_words` of src/transfer.rt keeps its contract.
use native.Mathlib.Omega.{arith}
use Rattle.indexed_room.proofs.TransferLaws.{entered-none, entered_all}
use Rattle.indexed_room.proofs.transfer.lay_words.Goals as goal

pub loop-s-init : goal.loop-s-init
loop-s-init c = (omega arith, λ f d e h. entered-none f d e h)

pub loop-s-preserved : goal.loop-s-preserved
loop-s-preserved c =
    let l = c.loop-s in (omega (arith, c.loop-s-test.true), λ f d e h. c.enter.ensures f d (l.invariant.1 f d e h))

pub returns : goal.returns
returns c = let l = c.loop-s in λ f d e h. entered_all f d l.s l.invariant.0 c.loop-s-test.false (l.invariant.1 f d e h)
