-- That `clear` of src/effects.rt keeps its contract.
use mathlib.Core.Path.{ap, ap₂, ◌∙◌}
use Rattle.words.specs.Word.{both, without}
use Rattle.aic_registers.specs.Effects.{cleared_by}
use Rattle.aic_room.proofs.CellLaws.{edges-is, memory-is, put_memory}
use Rattle.aic_room.proofs.LevelLaws.{laid-stale}
use Rattle.aic_room.proofs.effects.clear.Goals as goal

pub returns : goal.returns
unfolding cleared_by
returns c =
    let v = c.args.v in
    λ a h. c.renew.ensures _ (put_memory (laid-stale h) (c.drop_bits-w.ensures ∙ ap₂ without (memory-is h) (c.meet.ensures ∙ ap (both v) (edges-is h))))
