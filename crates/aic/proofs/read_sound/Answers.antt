-- That `read_sound` of src/lib.rt keeps its contract.
use Rattle.aic.specs.Model.{read}
use Rattle.aic.proofs.CallLaws.{done, stopped, read_number_lem}
use mathlib.Core.Path.{◌∙◌}
use Rattle.aic_record.proofs.SoundLaws.{sound-is}
use Rattle.aic.proofs.read_sound.Goals as goal

pub read_at-requires : goal.read_at-requires
read_at-requires c = (sound-is _ c.requires).entries

pub returns-then-n-eq-CARRIED_OUT : goal.returns-then-n-eq-CARRIED_OUT
unfolding read
returns-then-n-eq-CARRIED_OUT c = c.read_at.ensures ∙ done _ _ _ _ (read_number_lem _ _ _ _ c.requires c.access_of.ensures c.read_refusal-n.ensures) c.if-n-eq-CARRIED_OUT.true

pub returns : goal.returns
unfolding read
returns c = c.refusal_of.ensures ∙ stopped _ _ _ _ (read_number_lem _ _ _ _ c.requires c.access_of.ensures c.read_refusal-n.ensures) c.if-n-eq-CARRIED_OUT.false
