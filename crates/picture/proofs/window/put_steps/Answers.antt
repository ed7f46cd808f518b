-- That `put_steps` of src/window.rt keeps its contract.
use mathlib.Core.Path.{sym, ◌∙◌}
use native.Mathlib.Omega.{arith}
use Rattle.trace.proofs.TraceLaws.{turn_found}
use Rattle.beginning.proofs.PlayLaws.{next-ready}
use Rattle.picture.proofs.ColumnLaws.{put_ended, put_found}
use borrow.Author.Rules.{rules}
use Rattle.picture.proofs.window.put_steps.Goals as goal

pub returns-in-Ended : goal.returns-in-Ended
returns-in-Ended c = put_ended _ _ _ _ _ _ _ _ _ (sym c.turn_at.ensures ∙ c.in-Ended.is) c.loop-refusal.invariant.0

-- a step is found only while something is left of the limit
pub overflow_sub-left : goal.overflow_sub-left
overflow_sub-left c = omega (arith, (turn_found _ _ _ _ _ _ (sym c.turn_at.ensures ∙ c.in-Found.is)).1.0)

pub loop-refusal-smaller : goal.loop-refusal-smaller
loop-refusal-smaller c = omega (arith, (turn_found _ _ _ _ _ _ (sym c.turn_at.ensures ∙ c.in-Found.is)).1.0)

pub loop-refusal-preserved : goal.loop-refusal-preserved
loop-refusal-preserved c = let l = c.loop-refusal in (
  put_found _ _ _ _ _ _ _ _ _ _ _ _ (sym c.turn_at.ensures ∙ c.in-Found.is) c.step_sound-a.ensures c.column.ensures
      c.put_column-to.ensures l.invariant.0,
  search rules,
  next-ready _ _ _ c.step_sound-a.ensures l.invariant.2,
)
