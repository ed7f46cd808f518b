-- That `step_sound` of src/lib.rt keeps its contract.
use mathlib.Core.Path.{sym, ◌∙◌}
use borrow.Author.Rules.{rules}
use Rattle.machine.proofs.MachineLaws.{sound_aic, sound_core, sound-cic, sound_aintc, sound-indexed, fifth-kind}
use Rattle.machine.proofs.StepLaws.{aic_steps, core_steps, cic_steps, aintc_steps, indexed_steps}
use Rattle.machine.proofs.step_sound.Goals as goal

pub aic_step-requires : goal.aic_step-requires
aic_step-requires c = sound_aic _ c.in-0.is ∙ c.requires

pub returns-in-0 : goal.returns-in-0
returns-in-0 c = c.aic_step.ensures ∙ sym (aic_steps _ _ c.in-0.is)

pub core_step-requires : goal.core_step-requires
core_step-requires c = sound_core _ c.in-1.is ∙ c.requires

pub returns-in-1 : goal.returns-in-1
returns-in-1 c = c.core_step.ensures ∙ sym (core_steps _ _ c.in-1.is)

pub cic_step-requires : goal.cic_step-requires
cic_step-requires c = sound-cic _ c.in-2.is ∙ c.requires

pub returns-in-2 : goal.returns-in-2
returns-in-2 c = c.cic_step.ensures ∙ sym (cic_steps _ _ c.in-2.is)

pub aintc_step-requires : goal.aintc_step-requires
aintc_step-requires c = sound_aintc _ c.in-3.is ∙ c.requires

pub returns-in-3 : goal.returns-in-3
returns-in-3 c = c.aintc_step.ensures ∙ sym (aintc_steps _ _ c.in-3.is)

pub indexed_step-requires : goal.indexed_step-requires
indexed_step-requires c = let p = c.requires in
    sound-indexed _ (fifth-kind _ p (search rules) (search rules) (search rules) (search rules)) ∙ p

pub returns-in_default : goal.returns-in_default
returns-in_default c = let k = fifth-kind _ c.requires (search rules) (search rules) (search rules) (search rules) in
    c.indexed_step.ensures ∙ sym (indexed_steps _ _ k)
