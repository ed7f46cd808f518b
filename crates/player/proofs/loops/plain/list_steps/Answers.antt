-- That `list_steps` of src/loops/plain.rt keeps its contract.
use mathlib.Core.Path.{ap, sym, ◌∙◌}
use native.Mathlib.Omega.{arith}
use Rattle.text.specs.Text.{write}
use Rattle.trace.proofs.TraceLaws.{turn_found}
use Rattle.beginning.proofs.PlayLaws.{next-ready}
use Rattle.lines.proofs.LineLaws.{text-ended, listed}
use borrow.Author.Rules.{rules}
use Rattle.player.proofs.loops.plain.list_steps.Goals as goal

pub returns-in-Ended : goal.returns-in-Ended
returns-in-Ended c = c.put_end.ensures ∙ ap (write _) (text-ended _ _ _ _ _ _ _ _ (sym c.turn_at.ensures ∙ c.in-Ended.is)) ∙ c.loop-refusal.invariant.0

-- a step is found only while something is left of the limit
pub overflow_sub-more : goal.overflow_sub-more
overflow_sub-more c = omega (arith, (turn_found _ _ _ _ _ _ (sym c.turn_at.ensures ∙ c.in-Found.is)).1.0)

pub overflow_add-number : goal.overflow_add-number
overflow_add-number c = omega (arith, (turn_found _ _ _ _ _ _ (sym c.turn_at.ensures ∙ c.in-Found.is)).1.0)

pub shown_sound-requires : goal.shown_sound-requires
shown_sound-requires c = let l = c.loop-refusal in
    (next-ready _ _ _ c.step_sound-a.ensures l.invariant.3).0

pub loop-refusal-smaller : goal.loop-refusal-smaller
loop-refusal-smaller c = omega (arith, (turn_found _ _ _ _ _ _ (sym c.turn_at.ensures ∙ c.in-Found.is)).1.0)

pub loop-refusal-preserved : goal.loop-refusal-preserved
loop-refusal-preserved c = let e = sym c.turn_at.ensures ∙ c.in-Found.is in
    let l = c.loop-refusal in (
      listed _ _ _ _ _ _ _ _ _ _ _ _ _ _ _ e c.step_sound-a.ensures c.letter_of-letter.ensures c.shown_value-value.ensures c.shown_sound.ensures
          c.put_line-to.ensures l.invariant.0,
      search rules,
      omega (arith, (turn_found _ _ _ _ _ _ e).1.0),
      next-ready _ _ _ c.step_sound-a.ensures l.invariant.3,
    )
