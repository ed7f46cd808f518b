-- That `free_word` of src/holds.rt keeps its contract.
use mathlib.Core.Path.{refl}
use native.Mathlib.Omega.{arith}
use Rattle.indexed_room.proofs.HoldLaws.{free-none, free_more, free-done}
use Rattle.indexed_room.proofs.holds.free_word.Goals as goal

pub loop-j-init : goal.loop-j-init
loop-j-init c = (omega arith, λ p h. free-none p _ _ h)

pub loop-j-preserved : goal.loop-j-preserved
loop-j-preserved c =
    let l = c.loop-j in
    (omega (arith, c.loop-j-test.true), λ p h. free_more p _ _ l.j c.has.ensures refl (c.free_if.ensures _ (l.invariant.1 p h)))

pub returns : goal.returns
returns c = let l = c.loop-j in λ p h. free-done p _ _ l.j l.invariant.0 c.loop-j-test.false (l.invariant.1 p h)
