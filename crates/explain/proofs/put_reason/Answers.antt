use mathlib.Core.Path.{ap, ◌∙◌}
use Rattle.text.specs.Text.{write}
use borrow.Author.Tests.{eq-eqb, ne_eqb}
use Rattle.words.proofs.ChoiceLaws.{pick_true, pick-false}
use Rattle.text.specs.Phrases.{bytes}
use Rattle.explain.specs.Explain.{reason_words}
use Rattle.explain.proofs.put_reason.Goals as goal

-- src/lib.rt:509:9
pub returns-then-refusal-eq-MISALIGNED : goal.returns-then-refusal-eq-MISALIGNED
unfolding reason_words bytes
returns-then-refusal-eq-MISALIGNED c =
    c.put_all.ensures
    ∙ ap (write _) (pick_true _ (eq-eqb _ _ c.if-refusal-eq-MISALIGNED.true))

-- src/lib.rt:512:9
pub returns-then-refusal-eq-ABSENT : goal.returns-then-refusal-eq-ABSENT
unfolding reason_words bytes
returns-then-refusal-eq-ABSENT c =
    c.put_all-then-refusal-eq-ABSENT.ensures
    ∙ ap (write _) (pick_true _ (eq-eqb _ _ c.if-refusal-eq-ABSENT.true)
    ∙ pick-false _ (ne_eqb _ _ c.if-refusal-eq-MISALIGNED.false))

-- src/lib.rt:515:9
pub returns-then-refusal-eq-UNREADABLE : goal.returns-then-refusal-eq-UNREADABLE
unfolding reason_words bytes
returns-then-refusal-eq-UNREADABLE c =
    c.put_all-then-refusal-eq-UNREADABLE.ensures
    ∙ ap (write _) (pick_true _ (eq-eqb _ _ c.if-refusal-eq-UNREADABLE.true)
    ∙ pick-false _ (ne_eqb _ _ c.if-refusal-eq-ABSENT.false)
    ∙ pick-false _ (ne_eqb _ _ c.if-refusal-eq-MISALIGNED.false))

-- src/lib.rt:518:9
pub returns-then-refusal-eq-UNWRITABLE : goal.returns-then-refusal-eq-UNWRITABLE
unfolding reason_words bytes
returns-then-refusal-eq-UNWRITABLE c =
    c.put_all-then-refusal-eq-UNWRITABLE.ensures
    ∙ ap (write _) (pick_true _ (eq-eqb _ _ c.if-refusal-eq-UNWRITABLE.true)
    ∙ pick-false _ (ne_eqb _ _ c.if-refusal-eq-UNREADABLE.false)
    ∙ pick-false _ (ne_eqb _ _ c.if-refusal-eq-ABSENT.false)
    ∙ pick-false _ (ne_eqb _ _ c.if-refusal-eq-MISALIGNED.false))

-- src/lib.rt:521:9
pub returns-then-refusal-eq-BEYOND : goal.returns-then-refusal-eq-BEYOND
unfolding reason_words bytes
returns-then-refusal-eq-BEYOND c =
    c.put_limit.ensures
    ∙ ap (write _) (pick_true _ (eq-eqb _ _ c.if-refusal-eq-BEYOND.true)
    ∙ pick-false _ (ne_eqb _ _ c.if-refusal-eq-UNWRITABLE.false)
    ∙ pick-false _ (ne_eqb _ _ c.if-refusal-eq-UNREADABLE.false)
    ∙ pick-false _ (ne_eqb _ _ c.if-refusal-eq-ABSENT.false)
    ∙ pick-false _ (ne_eqb _ _ c.if-refusal-eq-MISALIGNED.false))

-- src/lib.rt:524:9
pub returns-then-refusal-eq-UNPRIVILEGED : goal.returns-then-refusal-eq-UNPRIVILEGED
unfolding reason_words bytes
returns-then-refusal-eq-UNPRIVILEGED c =
    c.put_all-then-refusal-eq-UNPRIVILEGED.ensures
    ∙ ap (write _) (pick_true _ (eq-eqb _ _ c.if-refusal-eq-UNPRIVILEGED.true)
    ∙ pick-false _ (ne_eqb _ _ c.if-refusal-eq-BEYOND.false)
    ∙ pick-false _ (ne_eqb _ _ c.if-refusal-eq-UNWRITABLE.false)
    ∙ pick-false _ (ne_eqb _ _ c.if-refusal-eq-UNREADABLE.false)
    ∙ pick-false _ (ne_eqb _ _ c.if-refusal-eq-ABSENT.false)
    ∙ pick-false _ (ne_eqb _ _ c.if-refusal-eq-MISALIGNED.false))

-- src/lib.rt:505:1
pub returns : goal.returns
unfolding reason_words bytes
returns c =
    c.put_all-2.ensures
    ∙ ap (write _) (pick-false _ (ne_eqb _ _ c.if-refusal-eq-UNPRIVILEGED.false)
    ∙ pick-false _ (ne_eqb _ _ c.if-refusal-eq-BEYOND.false)
    ∙ pick-false _ (ne_eqb _ _ c.if-refusal-eq-UNWRITABLE.false)
    ∙ pick-false _ (ne_eqb _ _ c.if-refusal-eq-UNREADABLE.false)
    ∙ pick-false _ (ne_eqb _ _ c.if-refusal-eq-ABSENT.false)
    ∙ pick-false _ (ne_eqb _ _ c.if-refusal-eq-MISALIGNED.false))
