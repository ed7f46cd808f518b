-- That `put_byte` of src/fields.rt keeps its contract.
use mathlib.Core.Path.{ap, ◌∙◌}
use Rattle.text.specs.Text.{write}
use Rattle.text.proofs.WriteLaws.{and_then, nothing}
use borrow.Author.Tests.{lt-ltb, le-ltb}
use Rattle.words.proofs.ChoiceLaws.{pick_true, pick-false}
use Rattle.text.specs.Phrases.{bytes}
use Rattle.register_words.specs.Fields.{byte_words}
use Rattle.register_words.proofs.fields.put_byte.Goals as goal

pub returns-then-n-count : goal.returns-then-n-count
unfolding byte_words bytes
returns-then-n-count c =
    and_then _ _ _ c.put_counted-a.ensures c.put_counted.ensures ∙ ap (write _) (pick_true _ (lt-ltb _ _ c.if-n-count.true))

pub returns : goal.returns
unfolding byte_words
returns c = nothing _ ∙ ap (write _) (pick-false _ (le-ltb _ _ c.if-n-count.false))
