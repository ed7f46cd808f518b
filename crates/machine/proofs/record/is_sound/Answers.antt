-- That `is_sound` of src/record.rt keeps its contract.
use mathlib.Core.Path.{ap, ◌∙◌}
use borrow.Author.Rules.{rules}
use Rattle.cic_held.specs.Held.{sound as indexed_sound}
use Rattle.machine.proofs.MachineLaws.{sound_aic, sound_core, sound-cic, sound_aintc, sound-indexed, sound_none}
use Rattle.machine.proofs.record.is_sound.Goals as goal

pub returns-in-0 : goal.returns-in-0
returns-in-0 c = c.is_sound.ensures ∙ sound_aic _ c.in-0.is

pub returns-in-1 : goal.returns-in-1
returns-in-1 c = c.is_sound-in-1.ensures ∙ sound_core _ c.in-1.is

pub returns-in-2 : goal.returns-in-2
returns-in-2 c = c.is_sound-in-2.ensures ∙ sound-cic _ c.in-2.is

pub returns-in-3 : goal.returns-in-3
returns-in-3 c = c.is_sound-in-3.ensures ∙ sound_aintc _ c.in-3.is

pub returns-in-4 : goal.returns-in-4
returns-in-4 c = c.is_sound-in-4.ensures ∙ ap indexed_sound c.indexed.ensures ∙ sound-indexed _ c.in-4.is

pub returns-in_default : goal.returns-in_default
returns-in_default c = sound_none _ (search rules) (search rules) (search rules) (search rules) (search rules)
