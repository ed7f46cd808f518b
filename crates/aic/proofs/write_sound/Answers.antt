-- That `write_sound` of src/lib.rt keeps its contract.
use Rattle.aic_record.specs.declared.Aic.{Aic}
use Rattle.aic_registers.specs.Handlers.{answered}
use Rattle.aic.specs.Model.{write}
use Rattle.aic.proofs.CallLaws.{done, stopped, write_number_lem}
use Rattle.aic_record.proofs.SoundLaws.{sound-is}
use mathlib.Core.Path.{ap, ◌∙◌}
use Rattle.aic.proofs.write_sound.Goals as goal

pub write_at-requires : goal.write_at-requires
write_at-requires c = (sound-is _ c.requires).entries

pub returns-then-n-eq-CARRIED_OUT : goal.returns-then-n-eq-CARRIED_OUT
unfolding write
returns-then-n-eq-CARRIED_OUT c = c.answer_of.ensures ∙ ap (λ (t : Aic). answered t 0) c.write_at.ensures ∙ done _ _ _ _ (write_number_lem _ _ _ _ _ c.requires c.access_of.ensures c.write_refusal-n.ensures) c.if-n-eq-CARRIED_OUT.true

pub returns : goal.returns
unfolding write
returns c = c.refusal_of.ensures ∙ stopped _ _ _ _ (write_number_lem _ _ _ _ _ c.requires c.access_of.ensures c.write_refusal-n.ensures) c.if-n-eq-CARRIED_OUT.false
