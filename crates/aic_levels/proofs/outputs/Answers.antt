-- That `outputs` of src/lib.rt keeps its contract.
use mathlib.Core.Path.{sym, ◌∙◌}
use Rattle.words.proofs.ChoiceLaws.{by-false}
use Rattle.words.proofs.TruthLaws.{and_parts}
use Rattle.aic_levels.specs.Model.{outputs_with}
use Rattle.aic_levels.proofs.outputs.Goals as goal

pub outputs_agreed-requires : goal.outputs_agreed-requires
outputs_agreed-requires c = sym (and_parts c.is_sound.ensures c.agrees.ensures) ∙ c.if-is_sound-agrees.true

pub returns : goal.returns
unfolding outputs_with
returns c = by-false _ (and_parts c.is_sound.ensures c.agrees.ensures) c.if-is_sound-agrees.false
