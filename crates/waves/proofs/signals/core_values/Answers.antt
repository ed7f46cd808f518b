-- That `core_values` of src/signals.rt keeps its contract.
use Rattle.waves.proofs.SignalLaws.{core-made}
use Rattle.waves.proofs.signals.core_values.Goals as goal

pub returns : goal.returns
returns c = core-made _ _ _ _ _ _ _ _ _ _ _ c.outputs_sound-o.ensures c.one_if-irq.ensures c.one_if-fiq.ensures
    c.raw-a.ensures c.status-b.ensures c.raw-c.ensures c.status-d.ensures
