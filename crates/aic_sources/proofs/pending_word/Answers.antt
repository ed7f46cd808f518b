-- That `pending_word` of src/lib.rt keeps its contract.
use Rattle.aic_sources.proofs.PendingLaws.{pending-by}
use Rattle.words.specs.Word.{without}
use mathlib.Core.Path.{ap, ◌∙◌}
use Rattle.aic_sources.proofs.pending_word.Goals as goal

pub returns : goal.returns
returns c = c.blend.ensures ∙ pending-by _ _ _ _ (c.drop_bits-low.ensures ∙ ap (without _) c.mode_word.ensures) c.edge_word.ensures c.active_word.ensures
