-- That `outputs` of src/lib.rt keeps its contract.
use mathlib.Core.Path.{sym, ◌∙◌}
use Rattle.words.proofs.ChoiceLaws.{by-false}
use Rattle.cic_indexed.specs.Model.{outputs}
use Rattle.cic_prioritised.proofs.outputs.Goals as goal

pub outputs_sound-requires : goal.outputs_sound-requires
outputs_sound-requires c = sym c.is_sound.ensures ∙ c.if-is_sound.true

pub returns : goal.returns
unfolding outputs
returns c = by-false _ c.is_sound.ensures c.if-is_sound.false
