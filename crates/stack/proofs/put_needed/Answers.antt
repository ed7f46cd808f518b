-- That `put_needed` of src/lib.rt keeps its contract.
use mathlib.Core.Path.{ap, ◌∙◌}
use borrow.Author.Tests.{eq-eqb, ne_eqb}
use Rattle.words.proofs.ChoiceLaws.{pick_true, pick-false}
use Rattle.text.specs.Text.{write}
use Rattle.text.proofs.WriteLaws.{write-laid}
use Rattle.stack.specs.Printed.{text_of}
use Rattle.stack.proofs.put_needed.Goals as goal

pub returns-then-n-eq-CARRIED_OUT : goal.returns-then-n-eq-CARRIED_OUT
unfolding text_of
returns-then-n-eq-CARRIED_OUT c =
    c.put_figure.ensures ∙ ap (write _) (pick_true _ (eq-eqb _ _ c.if-n-eq-CARRIED_OUT.true)) ∙ write-laid _ _

pub returns : goal.returns
unfolding text_of
returns c =
    c.put_number.ensures ∙ ap (write _) (pick-false _ (ne_eqb _ _ c.if-n-eq-CARRIED_OUT.false)) ∙ write-laid _ _
