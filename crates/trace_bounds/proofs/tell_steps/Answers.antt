-- That `tell_steps` of src/lib.rt keeps its contract.
use mathlib.Core.Path.{sym, ◌∙◌}
use native.Mathlib.Omega.{arith}
use Rattle.trace.proofs.TraceLaws.{turn_found}
use Rattle.trace_bounds.proofs.WaitLaws.{begins, told_text, told_figures, told-ending, small, tells_on}
use Rattle.trace_bounds.proofs.tell_steps.Goals as goal

pub loop-refusal-init : goal.loop-refusal-init
loop-refusal-init c =
    let p = c.requires in
    (begins _ _ _ _ _ _ _ c.no_figures-f.ensures p.0 p.1, p.2, p.3)

pub returns-in-Ended : goal.returns-in-Ended
returns-in-Ended c =
    let g = c.loop-refusal.invariant.0 in
    let e = sym c.turn_at.ensures ∙ c.in-Ended.is in
    record {
      text = told_text _ _ _ _ _ _ _ _ _ _ _ _ _ _ g _ _ e _ c.put_if-end.ensures;
      figures = told_figures _ _ _ _ _ _ _ _ _ _ _ _ _ _ g _ _ e;
      ending = told-ending _ _ _ _ _ _ _ _ _ _ _ _ _ _ g _ _ e;
    }

pub step_sound-a-requires : goal.step_sound-a-requires
step_sound-a-requires c = c.loop-refusal.invariant.0.ready

pub stands-w-requires : goal.stands-w-requires
stands-w-requires c = c.loop-refusal.invariant.1

pub overflow_add-n : goal.overflow_add-n
overflow_add-n c =
    let l = c.loop-refusal in
    omega (arith, small _ _ _ _ _ _ _ _ _ _ _ _ _ _ l.invariant.0 l.invariant.2 _ _ (sym c.turn_at.ensures ∙ c.in-Found.is))

-- a step is found only while something is left of the limit
pub overflow_sub-left : goal.overflow_sub-left
overflow_sub-left c =
    omega (arith, (turn_found _ _ _ _ _ _ (sym c.turn_at.ensures ∙ c.in-Found.is)).1.0)

pub loop-refusal-smaller : goal.loop-refusal-smaller
loop-refusal-smaller c =
    omega (arith, (turn_found _ _ _ _ _ _ (sym c.turn_at.ensures ∙ c.in-Found.is)).1.0)

pub loop-refusal-preserved : goal.loop-refusal-preserved
loop-refusal-preserved c =
    let l = c.loop-refusal in (
      tells_on _ _ _ _ _ _ _ _ _ _ _ _ _ _ l.invariant.0 l.invariant.2 _ _ (sym c.turn_at.ensures ∙ c.in-Found.is) _ _ _ _ _ _ _ c.step_sound-a.ensures c.stands-w.ensures
          c.marks_of-m.ensures c.put_if-to.ensures c.either-began.ensures c.figures_after-f.ensures,
      l.invariant.1,
      l.invariant.2,
    )
