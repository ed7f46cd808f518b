-- That `values` of src/signals.rt keeps its contract.
use mathlib.Core.Path.{ap, ◌∙◌}
use Rattle.cic_held.specs.Held.{sound as indexed_sound}
use Rattle.cic_indexed.specs.Model.{outputs as indexed_outputs}
use Rattle.machine.proofs.MachineLaws.{sound_aic, sound_core, sound-cic, sound_aintc, sound-indexed, fifth-kind}
use Rattle.waves.specs.Signals.{eleven}
use Rattle.waves.proofs.SignalLaws.{aic-values, core-values, cic-values, aintc-values, indexed-values}
use Rattle.waves.proofs.signals.values.Goals as goal

pub aic_values-requires : goal.aic_values-requires
aic_values-requires c = sound_aic _ c.if-kind-eq-AIC.true ∙ c.requires

pub returns-then-kind-eq-AIC : goal.returns-then-kind-eq-AIC
returns-then-kind-eq-AIC c = c.aic_values.ensures ∙ ap eleven (aic-values _ _ _ _ c.if-kind-eq-AIC.true)

pub core_values-requires : goal.core_values-requires
core_values-requires c = sound_core _ c.if-kind-eq-CORE.true ∙ c.requires

pub returns-then-kind-eq-CORE : goal.returns-then-kind-eq-CORE
returns-then-kind-eq-CORE c = c.core_values.ensures ∙ ap eleven (core-values _ _ _ _ c.if-kind-eq-CORE.true)

pub outputs_sound-requires : goal.outputs_sound-requires
outputs_sound-requires c = sound-cic _ c.if-kind-eq-CIC.true ∙ c.requires

pub returns-then-kind-eq-CIC : goal.returns-then-kind-eq-CIC
returns-then-kind-eq-CIC c = c.cic_values.ensures ∙ ap eleven (cic-values _ _ _ _ c.if-kind-eq-CIC.true _ c.outputs_sound.ensures)

pub aintc_values-requires : goal.aintc_values-requires
aintc_values-requires c = sound_aintc _ c.if-kind-eq-AINTC.true ∙ c.requires

pub returns-then-kind-eq-AINTC : goal.returns-then-kind-eq-AINTC
returns-then-kind-eq-AINTC c = c.aintc_values.ensures ∙ ap eleven (aintc-values _ _ _ _ c.if-kind-eq-AINTC.true)

pub outputs_sound-requires-2 : goal.outputs_sound-requires-2
outputs_sound-requires-2 c = let p = c.requires in
    ap indexed_sound c.indexed-p.ensures ∙ sound-indexed _ (fifth-kind _ p c.if-kind-eq-AIC.false c.if-kind-eq-CORE.false c.if-kind-eq-CIC.false c.if-kind-eq-AINTC.false) ∙ p

pub returns : goal.returns
returns c = let k = fifth-kind _ c.requires c.if-kind-eq-AIC.false c.if-kind-eq-CORE.false c.if-kind-eq-CIC.false c.if-kind-eq-AINTC.false in
    c.cic_values-2.ensures ∙ ap eleven (indexed-values _ _ _ _ k _ (c.outputs_sound-2.ensures ∙ ap indexed_outputs c.indexed-p.ensures))
