-- That `put_unbounded` of src/sources.rt keeps its contract.
use Rattle.text.specs.Phrases.{bytes}
use Rattle.sheet.specs.Sources.{others}
use Rattle.text.proofs.WriteLaws.{and_then, nothing}
use Rattle.text.specs.Text.{write}
use Rattle.words.proofs.ChoiceLaws.{pick-false, pick_true}
use borrow.Author.Tests.{eq-eqb, ne_eqb}
use mathlib.Core.Path.{◌∙◌, ap}
use Rattle.sheet.proofs.sources.put_unbounded.Goals as goal

pub returns-then-unbounded-eq0 : goal.returns-then-unbounded-eq0
unfolding others bytes
returns-then-unbounded-eq0 c =
    nothing _ ∙ ap (write _) (pick_true _ (eq-eqb _ _ c.if-unbounded-eq0.true))

pub returns : goal.returns
unfolding others bytes
returns c =
    and_then _ _ _ c.put_counted-a.ensures c.put_all.ensures ∙ ap (write _) (pick-false _ (ne_eqb _ _ c.if-unbounded-eq0.false))
