-- That `one_more` of src/waits.rt keeps its contract.
use mathlib.Core.Path.{◌∙◌}
use Rattle.aic_figures.proofs.RowLaws.{one-is}
use Rattle.aic_figures.proofs.waits.one_more.Goals as goal

pub returns : goal.returns
returns c = let a = c.args in c.saturating_add.ensures ∙ one-is a.n a.on a.i
