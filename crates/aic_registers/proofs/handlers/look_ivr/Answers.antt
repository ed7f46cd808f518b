-- That `look_ivr` of src/handlers.rt keeps its contract.
use mathlib.Core.Path.{ap, ◌∙◌}
use Rattle.aic_record.specs.declared.Aic.{Aic}
use Rattle.aic_registers.specs.Handlers.{answered}
use Rattle.aic_registers.proofs.CallLaws.{look-some, look_none}
use Rattle.aic_registers.proofs.handlers.look_ivr.Goals as goal

pub returns-then-k-lt32 : goal.returns-then-k-lt32
returns-then-k-lt32 c = c.answer_of.ensures ∙ ap (λ (t : Aic). answered t c.vector_at.result) c.with_seen.ensures
    ∙ look-some _ _ _ _ c.chosen_source-k.ensures c.if-k-lt32.true c.seen_of.ensures c.vector_at.ensures

pub returns : goal.returns
returns c = c.answer_of-2.ensures ∙ ap (λ (t : Aic). answered t c.args.s.spurious) c.with_seen-2.ensures
    ∙ look_none _ _ _ c.chosen_source-k.ensures c.if-k-lt32.false c.none_seen.ensures
