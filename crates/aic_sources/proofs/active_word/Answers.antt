-- That `active_word` of src/lib.rt keeps its contract.
use Rattle.aic_sources.proofs.PendingLaws.{flipped}
use mathlib.Core.Path.{ap₂, ◌∙◌}
use Rattle.words.specs.Word.{either}
use Rattle.aic_sources.proofs.active_word.Goals as goal

pub returns : goal.returns
returns c = c.join.ensures ∙ ap₂ either c.drop_bits.ensures c.drop_bits-2.ensures ∙ flipped _ _
