-- That `disable` of src/effects.rt keeps its contract.
use mathlib.Core.Path.{ap, ◌∙◌}
use Prim.Native.Nat.{ℕ}
use Rattle.words.specs.Word.{without}
use Rattle.aic_record.specs.Record.{with_enabled}
use Rattle.aic_registers.specs.Effects.{disabled_by}
use Rattle.aic_room.proofs.CellLaws.{laid_as, enabled-is}
use Rattle.aic_room.proofs.LevelLaws.{laid-stale}
use Rattle.aic_room.proofs.effects.disable.Goals as goal

pub returns : goal.returns
unfolding disabled_by
returns c =
    λ a h. laid_as (ap (with_enabled a) (c.drop_bits-w.ensures ∙ ap (λ (w : ℕ). without w c.args.v) (enabled-is h))) (c.renew.ensures _ (c.put_enabled.ensures a (laid-stale h)))
