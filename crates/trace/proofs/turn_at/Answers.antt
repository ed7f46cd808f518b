-- That `turn_at` of src/lib.rt keeps its contract.
use mathlib.Core.Path.{sym, ap, ◌∙◌}
use borrow.Author.Tests.{eq-eqb, ne_eqb, lt-ltb, le-ltb}
use Rattle.words.proofs.ChoiceLaws.{pick_true, pick-false}
use Rattle.trace.specs.Steps.{made_turn}
use Rattle.trace.specs.Trace.{turn_at}
use Rattle.trace.proofs.turn_at.Goals as goal

pub returns-then-trace-at : goal.returns-then-trace-at
unfolding turn_at
returns-then-trace-at c = pick-false _ (le-ltb _ _ c.if-trace-at.true)

pub returns-then-left-eq0 : goal.returns-then-left-eq0
unfolding turn_at
returns-then-left-eq0 c = pick_true _ (eq-eqb _ _ c.if-left-eq0.true) ∙ pick_true _ (lt-ltb _ _ c.if-trace-at.false)

pub returns-in-Ok : goal.returns-in-Ok
unfolding turn_at
returns-in-Ok c =
    ap made_turn (sym c.in-Ok.is) ∙ c.step_at.ensures ∙ pick-false _ (ne_eqb _ _ c.if-left-eq0.false) ∙ pick_true _ (lt-ltb _ _ c.if-trace-at.false)

pub returns-in-Err : goal.returns-in-Err
unfolding turn_at
returns-in-Err c =
    ap made_turn (sym c.in-Err.is) ∙ c.step_at.ensures ∙ pick-false _ (ne_eqb _ _ c.if-left-eq0.false) ∙ pick_true _ (lt-ltb _ _ c.if-trace-at.false)
