-- That `fast_word` of src/lib.rt keeps its contract.
use Rattle.aic_sources.proofs.PendingLaws.{fast-by}
use mathlib.Core.Path.{◌∙◌}
use Rattle.aic_sources.proofs.fast_word.Goals as goal

pub returns : goal.returns
returns c = c.join.ensures ∙ fast-by c.args.s
