-- That `is_active_at` of src/lib.rt keeps its contract.
use mathlib.Core.Path.{ap, ◌∙◌}
use mathlib.Core.Bool.{Bool, not}
use Rattle.words.specs.Choice.{pick}
use Rattle.aic_sources.specs.Pending.{active_at}
use Rattle.aic_sources.proofs.PendingLaws.{low-from}
use Rattle.aic_sources.proofs.is_active_at.Goals as goal

pub returns : goal.returns
unfolding active_at
returns c =
    c.at_level.ensures
    ∙ ap (λ (b : Bool). pick b (not c.args.high) c.args.high) (low-from _ _ _ _ _ c.mode_at.ensures c.type_of-kind.ensures c.has.ensures)
