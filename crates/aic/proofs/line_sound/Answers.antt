-- That `line_sound` of src/lib.rt keeps its contract.
use Rattle.aic_record.specs.declared.Aic.{Aic}
use Rattle.aic_registers.specs.Handlers.{answered}
use Rattle.aic.specs.Model.{line}
use Rattle.aic.proofs.CallLaws.{done, stopped, line_number_lem}
use mathlib.Core.Path.{ap, ◌∙◌}
use Rattle.aic.proofs.line_sound.Goals as goal

pub returns-then-n-eq-CARRIED_OUT : goal.returns-then-n-eq-CARRIED_OUT
unfolding line
returns-then-n-eq-CARRIED_OUT c = c.answer_of.ensures ∙ ap (λ (t : Aic). answered t 0) c.move_line.ensures ∙ done _ _ _ _ (line_number_lem _ _ _ _ c.requires c.line_refusal-n.ensures) c.if-n-eq-CARRIED_OUT.true

pub returns : goal.returns
unfolding line
returns c = c.refusal_of.ensures ∙ stopped _ _ _ _ (line_number_lem _ _ _ _ c.requires c.line_refusal-n.ensures) c.if-n-eq-CARRIED_OUT.false
