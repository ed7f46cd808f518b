-- That `edge_word` of src/lib.rt keeps its contract.
use Rattle.aic_sources.proofs.PendingLaws.{edges_are}
use mathlib.Core.Path.{◌∙◌}
use Rattle.aic_sources.proofs.edge_word.Goals as goal

pub returns : goal.returns
returns c = c.mode_word.ensures ∙ edges_are _
