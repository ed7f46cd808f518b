-- That `put_more` of src/fields.rt keeps its contract.
use mathlib.Core.Path.{ap, ◌∙◌}
use Rattle.text.specs.Text.{write}
use Rattle.text.proofs.WriteLaws.{and_then, nothing}
use borrow.Author.Tests.{lt-ltb, le-ltb}
use Rattle.words.proofs.ChoiceLaws.{pick_true, pick-false}
use Rattle.text.specs.Phrases.{bytes}
use Rattle.register_words.specs.Fields.{more_words}
use Rattle.register_words.proofs.fields.put_more.Goals as goal

pub returns-then-n-gt8 : goal.returns-then-n-gt8
unfolding more_words bytes
returns-then-n-gt8 c =
    and_then _ _ _ c.put_counted-a.ensures c.put_all.ensures ∙ ap (write _) (pick_true _ (lt-ltb _ _ c.if-n-gt8.true))

pub returns : goal.returns
unfolding more_words
returns c = nothing _ ∙ ap (write _) (pick-false _ (le-ltb _ _ c.if-n-gt8.false))
