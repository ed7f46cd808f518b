-- That `put_closed` of src/lib.rt keeps its contract.
use mathlib.Core.Path.{ap, ◌∙◌}
use Rattle.text.specs.Text.{write}
use borrow.Author.Tests.{eq-eqb, ne_eqb}
use Rattle.words.proofs.ChoiceLaws.{pick_true, pick-false}
use Rattle.text.specs.Phrases.{bytes}
use Rattle.deeds.specs.Deeds.{closed_words}
use Rattle.deeds.proofs.put_closed.Goals as goal

pub returns-then-source-eq0 : goal.returns-then-source-eq0
unfolding closed_words bytes
returns-then-source-eq0 c =
    c.put_all.ensures
    ∙ ap (write _) (pick_true _ (eq-eqb _ _ c.if-source-eq0.true))

pub returns : goal.returns
unfolding closed_words bytes
returns c =
    c.put_counted.ensures
    ∙ ap (write _) (pick-false _ (ne_eqb _ _ c.if-source-eq0.false))
