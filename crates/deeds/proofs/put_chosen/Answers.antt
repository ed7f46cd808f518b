-- That `put_chosen` of src/lib.rt keeps its contract.
use mathlib.Core.Path.{ap, ◌∙◌}
use Rattle.text.specs.Text.{write}
use Rattle.text.proofs.WriteLaws.{and_then, nothing}
use Rattle.words.proofs.ChoiceLaws.{pick_true, pick-false}
use Rattle.text.specs.Phrases.{bytes}
use Rattle.deeds.specs.Deeds.{chosen_words}
use Rattle.deeds.proofs.put_chosen.Goals as goal

pub returns-then-a-b : goal.returns-then-a-b
unfolding chosen_words
returns-then-a-b c = nothing _ ∙ ap (write _) (pick_true _ c.if-a-b.true)

pub returns : goal.returns
unfolding chosen_words bytes
returns c =
    and_then _ _ _ c.put_counted-n.ensures c.put_all.ensures ∙ ap (write _) (pick-false _ c.if-a-b.false)
