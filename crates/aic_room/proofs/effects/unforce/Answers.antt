-- That `unforce` of src/effects.rt keeps its contract.
use mathlib.Core.Path.{ap, ◌∙◌}
use Prim.Native.Nat.{ℕ}
use Rattle.words.specs.Word.{without}
use Rattle.aic_record.specs.Record.{with_forced}
use Rattle.aic_registers.specs.Effects.{unforced_by}
use Rattle.aic_room.proofs.CellLaws.{laid_as, forced-is}
use Rattle.aic_room.proofs.LevelLaws.{laid-stale}
use Rattle.aic_room.proofs.effects.unforce.Goals as goal

pub returns : goal.returns
unfolding unforced_by
returns c =
    λ a h. laid_as (ap (with_forced a) (c.drop_bits-w.ensures ∙ ap (λ (w : ℕ). without w c.args.v) (forced-is h))) (c.renew.ensures _ (c.put_forced.ensures a (laid-stale h)))
