-- That `play_steps` of src/loops/plain.rt keeps its contract.
use mathlib.Core.Path.{sym, ◌∙◌}
use native.Mathlib.Omega.{arith}
use Rattle.trace.proofs.TraceLaws.{turn_found}
use Rattle.beginning.proofs.PlayLaws.{report-ended, played, next-ready}
use Rattle.player.proofs.loops.plain.play_steps.Goals as goal

pub returns-in-Ended : goal.returns-in-Ended
returns-in-Ended c = report-ended _ _ _ _ _ _ _ _ (sym c.turn_at.ensures ∙ c.in-Ended.is) ∙ c.loop-refusal.invariant.0

-- a step is found only while something is left of the limit
pub overflow_sub-left : goal.overflow_sub-left
overflow_sub-left c = omega (arith, (turn_found _ _ _ _ _ _ (sym c.turn_at.ensures ∙ c.in-Found.is)).1.0)

pub overflow_add-count : goal.overflow_add-count
overflow_add-count c = omega (arith, (turn_found _ _ _ _ _ _ (sym c.turn_at.ensures ∙ c.in-Found.is)).1.0)

pub loop-refusal-smaller : goal.loop-refusal-smaller
loop-refusal-smaller c = omega (arith, (turn_found _ _ _ _ _ _ (sym c.turn_at.ensures ∙ c.in-Found.is)).1.0)

pub loop-refusal-preserved : goal.loop-refusal-preserved
loop-refusal-preserved c = let e = sym c.turn_at.ensures ∙ c.in-Found.is in
    let l = c.loop-refusal in (
      played _ _ _ _ _ _ _ _ _ _ e c.step_sound-a.ensures l.invariant.0,
      omega (arith, (turn_found _ _ _ _ _ _ e).1.0),
      next-ready _ _ _ c.step_sound-a.ensures l.invariant.2,
    )
