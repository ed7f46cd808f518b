-- That `put_most` of src/sources.rt keeps its contract.
use Rattle.text.specs.Phrases.{bytes}
use Rattle.sheet.specs.Sources.{most}
use Rattle.text.specs.Text.{write}
use Rattle.words.proofs.ChoiceLaws.{pick-false, pick_true}
use borrow.Author.Tests.{eq-eqb, ne_eqb}
use mathlib.Core.Path.{◌∙◌, ap}
use Rattle.sheet.proofs.sources.put_most.Goals as goal

pub returns-then-begun-eq0 : goal.returns-then-begun-eq0
unfolding most bytes
returns-then-begun-eq0 c =
    c.put_all.ensures ∙ ap (write _) (pick_true _ (eq-eqb _ _ c.if-begun-eq0.true))

pub returns-then-unbounded-begun : goal.returns-then-unbounded-begun
unfolding most bytes
returns-then-unbounded-begun c =
    c.put_all-then-unbounded-begun.ensures ∙ ap (write _) (pick_true _ (eq-eqb _ _ c.if-unbounded-begun.true) ∙ pick-false _ (ne_eqb _ _ c.if-begun-eq0.false))

pub returns : goal.returns
unfolding most bytes
returns c =
    c.put_amount.ensures ∙ ap (write _) (pick-false _ (ne_eqb _ _ c.if-unbounded-begun.false) ∙ pick-false _ (ne_eqb _ _ c.if-begun-eq0.false))
