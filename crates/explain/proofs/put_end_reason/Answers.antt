use mathlib.Core.Path.{ap, ◌∙◌}
use Rattle.text.specs.Text.{write}
use borrow.Author.Tests.{eq-eqb, ne_eqb}
use Rattle.words.proofs.ChoiceLaws.{pick_true, pick-false}
use Rattle.text.specs.Phrases.{bytes}
use Rattle.explain.specs.Explain.{end_reason}
use Rattle.explain.proofs.put_end_reason.Goals as goal

-- src/lib.rt:220:9
pub returns-then-refusal-eq-LIMIT_REACHED : goal.returns-then-refusal-eq-LIMIT_REACHED
unfolding end_reason bytes
returns-then-refusal-eq-LIMIT_REACHED c =
    c.put_all.ensures
    ∙ ap (write _) (pick_true _ (eq-eqb _ _ c.if-refusal-eq-LIMIT_REACHED.true))

-- src/lib.rt:227:9
pub returns-then-refusal-eq-DAMAGED : goal.returns-then-refusal-eq-DAMAGED
unfolding end_reason bytes
returns-then-refusal-eq-DAMAGED c =
    c.put_all-then-refusal-eq-DAMAGED.ensures
    ∙ ap (write _) (pick_true _ (eq-eqb _ _ c.if-refusal-eq-DAMAGED.true)
    ∙ pick-false _ (ne_eqb _ _ c.if-refusal-eq-LIMIT_REACHED.false))

-- src/lib.rt:234:9
pub returns-then-refusal-eq-UNKNOWN : goal.returns-then-refusal-eq-UNKNOWN
unfolding end_reason bytes
returns-then-refusal-eq-UNKNOWN c =
    c.put_all-then-refusal-eq-UNKNOWN.ensures
    ∙ ap (write _) (pick_true _ (eq-eqb _ _ c.if-refusal-eq-UNKNOWN.true)
    ∙ pick-false _ (ne_eqb _ _ c.if-refusal-eq-DAMAGED.false)
    ∙ pick-false _ (ne_eqb _ _ c.if-refusal-eq-LIMIT_REACHED.false))

-- src/lib.rt:237:9
pub returns-then-refusal-eq-MISCONFIGURED : goal.returns-then-refusal-eq-MISCONFIGURED
unfolding end_reason bytes
returns-then-refusal-eq-MISCONFIGURED c =
    c.put_all-then-refusal-eq-MISCONFIGURED.ensures
    ∙ ap (write _) (pick_true _ (eq-eqb _ _ c.if-refusal-eq-MISCONFIGURED.true)
    ∙ pick-false _ (ne_eqb _ _ c.if-refusal-eq-UNKNOWN.false)
    ∙ pick-false _ (ne_eqb _ _ c.if-refusal-eq-DAMAGED.false)
    ∙ pick-false _ (ne_eqb _ _ c.if-refusal-eq-LIMIT_REACHED.false))

-- src/lib.rt:216:1
pub returns : goal.returns
unfolding end_reason bytes
returns c =
    c.put_all-2.ensures
    ∙ ap (write _) (pick-false _ (ne_eqb _ _ c.if-refusal-eq-MISCONFIGURED.false)
    ∙ pick-false _ (ne_eqb _ _ c.if-refusal-eq-UNKNOWN.false)
    ∙ pick-false _ (ne_eqb _ _ c.if-refusal-eq-DAMAGED.false)
    ∙ pick-false _ (ne_eqb _ _ c.if-refusal-eq-LIMIT_REACHED.false))
