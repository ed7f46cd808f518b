-- That `aic_values` of src/signals.rt keeps its contract.
use Rattle.waves.proofs.SignalLaws.{aic-made}
use Rattle.waves.proofs.signals.aic_values.Goals as goal

pub returns : goal.returns
returns c = aic-made _ _ _ _ _ _ _ _ _ _ c.outputs_sound-o.ensures c.one_if-irq.ensures c.one_if-fiq.ensures
    c.last_source-source.ensures c.last_level-level.ensures c.pending_word-pending.ensures
