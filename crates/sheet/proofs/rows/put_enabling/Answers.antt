-- That `put_enabling` of src/rows.rt keeps its contract.
use Rattle.text.specs.Phrases.{bytes}
use Rattle.sheet.specs.Rows.{enabling}
use Rattle.text.proofs.WriteLaws.{nothing}
use Rattle.text.specs.Text.{write}
use Rattle.words.proofs.ChoiceLaws.{pick-false, pick_true}
use borrow.Author.Tests.{eq-eqb, ne_eqb}
use mathlib.Core.Path.{◌∙◌, ap}
use Rattle.sheet.proofs.rows.put_enabling.Goals as goal

pub returns-then-used-eq0 : goal.returns-then-used-eq0
unfolding enabling bytes
returns-then-used-eq0 c =
    c.put_all.ensures ∙ ap (write _) (pick_true _ (eq-eqb _ _ c.if-used-eq0.true))

pub returns : goal.returns
unfolding enabling bytes
returns c =
    nothing _ ∙ ap (write _) (pick-false _ (ne_eqb _ _ c.if-used-eq0.false))
