-- That `index_word` of src/own.rt keeps its contract.
use mathlib.Core.Path.{◌∙◌}
use borrow.Author.Tests.{eq-eqb, ne_eqb}
use Rattle.words.proofs.ChoiceLaws.{pick_true, pick-false}
use Rattle.indexed_room.proofs.own.index_word.Goals as goal

pub returns-then-x-eq0 : goal.returns-then-x-eq0
returns-then-x-eq0 c = λ p ok h. c.index.ensures p ok h ∙ pick_true _ (eq-eqb c.args.x 0 c.if-x-eq0.true)

pub returns : goal.returns
returns c = λ p ok h. c.word_held.ensures ∙ pick-false _ (ne_eqb c.args.x 0 c.if-x-eq0.false)
