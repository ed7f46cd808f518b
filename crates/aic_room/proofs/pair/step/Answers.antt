-- That `step` of src/pair.rt keeps its contract.
use mathlib.Core.Path.{sym, ◌∙◌}
use Rattle.words.proofs.ChoiceLaws.{by-false}
use Rattle.words.proofs.TruthLaws.{and_parts}
use Rattle.aic_levels.specs.Model.{step_with}
use Rattle.aic_room.proofs.pair.step.Goals as goal

pub step_agreed-requires : goal.step_agreed-requires
step_agreed-requires c = sym (and_parts c.is_sound.ensures c.agrees.ensures) ∙ c.if-is_sound-agrees.true

pub returns : goal.returns
unfolding step_with
returns c = by-false _ (and_parts c.is_sound.ensures c.agrees.ensures) c.if-is_sound-agrees.false
