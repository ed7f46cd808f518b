-- That `put_further` of src/lib.rt keeps its contract.
use mathlib.Core.Path.{ap, ◌∙◌}
use Rattle.text.specs.Text.{write}
use Rattle.text.proofs.WriteLaws.{and_then, nothing}
use borrow.Author.Tests.{eq-eqb, ne_eqb}
use Rattle.words.proofs.ChoiceLaws.{pick_true, pick-false}
use Rattle.text.specs.Phrases.{bytes}
use Rattle.deeds.specs.Deeds.{further_words}
use Rattle.deeds.proofs.put_further.Goals as goal

pub returns-then-count-eq1 : goal.returns-then-count-eq1
unfolding further_words
returns-then-count-eq1 c = nothing _ ∙ ap (write _) (pick_true _ (eq-eqb _ _ c.if-count-eq1.true))

pub returns : goal.returns
unfolding further_words bytes
returns c =
    and_then _ _ _ c.put_counted-a.ensures c.put_all.ensures ∙ ap (write _) (pick-false _ (ne_eqb _ _ c.if-count-eq1.false))
