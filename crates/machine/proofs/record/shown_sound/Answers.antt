-- That `shown_sound` of src/record.rt keeps its contract.
use mathlib.Core.Path.{ap, sym, ◌∙◌}
use borrow.Author.Rules.{rules}
use Rattle.cic_held.specs.Held.{sound as indexed_sound}
use Rattle.cic_indexed.specs.Model.{outputs as indexed_outputs}
use Rattle.machine.specs.Shown.{aic_columns, core_columns, cic_columns, aintc_columns}
use Rattle.machine.proofs.MachineLaws.{sound_aic, sound_core, sound-cic, sound_aintc, sound-indexed, fifth-kind}
use Rattle.machine.proofs.ShownLaws.{aic-shows, core-shows, cic-shows, aintc-shows, indexed-shows}
use Rattle.machine.proofs.record.shown_sound.Goals as goal

pub outputs_sound-requires : goal.outputs_sound-requires
outputs_sound-requires c = sound_aic _ c.in-0.is ∙ c.requires

pub returns-in-0 : goal.returns-in-0
returns-in-0 c = c.aic_columns.ensures ∙ ap aic_columns c.outputs_sound.ensures ∙ sym (aic-shows _ c.in-0.is)

pub outputs_sound-requires-in-1 : goal.outputs_sound-requires-in-1
outputs_sound-requires-in-1 c = sound_core _ c.in-1.is ∙ c.requires

pub returns-in-1 : goal.returns-in-1
returns-in-1 c = c.core_columns.ensures ∙ ap core_columns c.outputs_sound-in-1.ensures ∙ sym (core-shows _ c.in-1.is)

pub outputs_sound-requires-in-2 : goal.outputs_sound-requires-in-2
outputs_sound-requires-in-2 c = sound-cic _ c.in-2.is ∙ c.requires

pub returns-in-2 : goal.returns-in-2
returns-in-2 c = c.cic_columns.ensures ∙ ap cic_columns c.outputs_sound-in-2.ensures ∙ sym (cic-shows _ c.in-2.is)

pub outputs_sound-requires-in-3 : goal.outputs_sound-requires-in-3
outputs_sound-requires-in-3 c = sound_aintc _ c.in-3.is ∙ c.requires

pub returns-in-3 : goal.returns-in-3
returns-in-3 c = c.aintc_columns.ensures ∙ ap aintc_columns c.outputs_sound-in-3.ensures ∙ sym (aintc-shows _ c.in-3.is)

pub outputs_sound-requires-in_default : goal.outputs_sound-requires-in_default
outputs_sound-requires-in_default c = let p = c.requires in
    ap indexed_sound c.indexed.ensures ∙ sound-indexed _ (fifth-kind _ p (search rules) (search rules) (search rules) (search rules)) ∙ p

pub returns-in_default : goal.returns-in_default
returns-in_default c = let k = fifth-kind _ c.requires (search rules) (search rules) (search rules) (search rules) in
    c.cic_columns-in_default.ensures ∙ ap cic_columns (c.outputs_sound-in_default.ensures ∙ ap indexed_outputs c.indexed.ensures) ∙ sym (indexed-shows _ k)
