-- That `put_words` of src/statements.rt keeps its contract.
use mathlib.Core.Path.{ap, ◌∙◌}
use Rattle.text.specs.Text.{write}
use Rattle.text.proofs.WriteLaws.{and_then, nothing}
use Rattle.encode.proofs.NumberLaws.{words-none, words-some}
use Rattle.encode.proofs.statements.put_words.Goals as goal

pub returns-then-words-eq0 : goal.returns-then-words-eq0
returns-then-words-eq0 c = nothing _ ∙ ap (write _) (words-none _ _ _ c.if-words-eq0.true)

pub returns : goal.returns
returns c =
    and_then _ _ _ c.put_number-next.ensures c.put_values.ensures ∙ ap (write _) (words-some _ _ _ c.if-words-eq0.false)
