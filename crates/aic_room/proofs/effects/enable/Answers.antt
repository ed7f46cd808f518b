-- That `enable` of src/effects.rt keeps its contract.
use mathlib.Core.Path.{ap, ◌∙◌}
use Prim.Native.Nat.{ℕ}
use Rattle.words.specs.Word.{either}
use Rattle.aic_record.specs.Record.{with_enabled}
use Rattle.aic_registers.specs.Effects.{enabled_by}
use Rattle.aic_room.proofs.CellLaws.{laid_as, enabled-is}
use Rattle.aic_room.proofs.LevelLaws.{laid-stale}
use Rattle.aic_room.proofs.effects.enable.Goals as goal

pub returns : goal.returns
unfolding enabled_by
returns c =
    λ a h. laid_as (ap (with_enabled a) (c.join-w.ensures ∙ ap (λ (w : ℕ). either w c.args.v) (enabled-is h))) (c.renew.ensures _ (c.put_enabled.ensures a (laid-stale h)))
