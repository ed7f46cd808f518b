-- That `play_steps` of src/loops.rt keeps its contract.
use mathlib.Core.Path.{refl, ◌∙◌}
use mathlib.Core.Bool.{false}
use native.Mathlib.Omega.{arith}
use Rattle.trace.proofs.TurnLaws.{ends_here, found_here}
use Rattle.beginning.proofs.PlayLaws.{report-ended}
use Rattle.player.proofs.LoopLaws.{stands, goes_on}
use Rattle.player.proofs.loops.play_steps.Goals as goal

pub loop-room-init : goal.loop-room-init
loop-room-init c =
    let p = c.requires in
    record { stood = stands false c.args.first _ p (c.lay-room.ensures p.0); reported = refl; counted = omega arith }

pub returns-then-t-eq-ENDED : goal.returns-then-t-eq-ENDED
returns-then-t-eq-ENDED c =
    let g = c.loop-room.invariant in
    let t = g.stood in
    rw (c.record_of-m.ensures false t.machine t.ready.0 t.laid t.beside)
    (report-ended _ _ _ _ _ _ _ _ (ends_here _ _ _ _ _ c.sure-t.ensures.0 c.if-t-eq-ENDED.true) ∙ g.reported)

-- a step that is found is of kind 1, 2 or 3
pub step-requires : goal.step-requires
step-requires c = (omega (arith, c.if-t-eq-ENDED.false), c.sure-t.ensures.1)

pub overflow_sub-left : goal.overflow_sub-left
overflow_sub-left c =
    omega (arith, (found_here _ _ _ _ _ c.sure-t.ensures.0 c.if-t-eq-ENDED.false).1.0)

pub overflow_add-count : goal.overflow_add-count
overflow_add-count c =
    omega (arith, (found_here _ _ _ _ _ c.sure-t.ensures.0 c.if-t-eq-ENDED.false).1.0, c.loop-room.invariant.counted, c.ranges.limit)

pub loop-room-smaller : goal.loop-room-smaller
loop-room-smaller c =
    omega (arith, (found_here _ _ _ _ _ c.sure-t.ensures.0 c.if-t-eq-ENDED.false).1.0)

pub loop-room-preserved : goal.loop-room-preserved
loop-room-preserved c =
    goes_on _ c.loop-room.invariant c.sure-t.ensures.0 c.if-t-eq-ENDED.false c.step.ensures
