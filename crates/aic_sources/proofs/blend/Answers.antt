-- That `blend` of src/lib.rt keeps its contract.
use Rattle.aic_sources.proofs.PendingLaws.{blended}
use mathlib.Core.Path.{ap₂, ◌∙◌}
use Rattle.words.specs.Word.{either}
use Rattle.aic_sources.proofs.blend.Goals as goal

pub returns : goal.returns
returns c = c.join.ensures ∙ ap₂ either c.meet.ensures c.drop_bits.ensures ∙ blended _ _ _
