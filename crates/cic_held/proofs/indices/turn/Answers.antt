-- That `turn` of src/indices.rt keeps its contract.
use Rattle.words.proofs.ChoiceLaws.{pick_true, pick-false}
use Rattle.cic_held.specs.Search.{turn_of}
use mathlib.Core.Path.{◌∙◌}
use Rattle.cic_held.proofs.indices.turn.Goals as goal

pub returns-then-asked : goal.returns-then-asked
unfolding turn_of
returns-then-asked c = c.search.ensures ∙ pick_true _ c.if-asked.true

pub returns : goal.returns
unfolding turn_of
returns c = pick-false _ c.if-asked.false
