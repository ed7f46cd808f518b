-- That `force` of src/effects.rt keeps its contract.
use mathlib.Core.Path.{ap, ap₂, ◌∙◌}
use Rattle.words.specs.Word.{either}
use Rattle.aic_record.specs.Record.{with_forced}
use Rattle.aic_registers.specs.Effects.{forced_by}
use Rattle.aic_room.proofs.CellLaws.{laid_as, forced-is}
use Rattle.aic_room.proofs.LevelLaws.{laid-stale}
use Rattle.aic_room.proofs.effects.force.Goals as goal

pub returns : goal.returns
unfolding forced_by
returns c =
    λ a h. laid_as (ap (with_forced a) (c.join-w.ensures ∙ ap₂ either (forced-is h) c.drop_bits.ensures)) (c.renew.ensures _ (c.put_forced.ensures a (laid-stale h)))
