-- That `aintc_values` of src/signals.rt keeps its contract.
use Rattle.waves.proofs.SignalLaws.{aintc-made}
use Rattle.waves.proofs.signals.aintc_values.Goals as goal

pub returns : goal.returns
returns c = aintc-made _ _ _ _ _ _ _ c.outputs_sound-o.ensures c.one_if-irq.ensures c.one_if-fiq.ensures
