-- That `set` of src/effects.rt keeps its contract.
use mathlib.Core.Path.{ap, ap₂, ◌∙◌}
use Rattle.words.specs.Word.{both, either}
use Rattle.aic_registers.specs.Effects.{set_by}
use Rattle.aic_room.proofs.CellLaws.{edges-is, memory-is, put_memory}
use Rattle.aic_room.proofs.LevelLaws.{laid-stale}
use Rattle.aic_room.proofs.effects.set.Goals as goal

pub returns : goal.returns
unfolding set_by
returns c =
    let v = c.args.v in
    λ a h. c.renew.ensures _ (put_memory (laid-stale h) (c.join-w.ensures ∙ ap₂ either (memory-is h) (c.meet.ensures ∙ ap (both v) (edges-is h))))
