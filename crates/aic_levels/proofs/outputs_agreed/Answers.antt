-- That `outputs_agreed` of src/lib.rt keeps its contract.
use mathlib.Core.Path.{refl}
use Rattle.aic_levels.proofs.AgreeLaws.{outputs-by}
use Rattle.aic_levels.proofs.outputs_agreed.Goals as goal

pub returns : goal.returns
returns c =
    outputs-by c.args.s c.args.l _ _ _ _ c.requires c.has-clear.ensures
    (c.least.ensures c.args.s refl refl) c.is_clean-some.ensures c.fast_asks.ensures
