-- That `write` of src/lib.rt keeps its contract.
use Rattle.aic_room.proofs.ReplyLaws.{few, eoicr-done, write_done, write_stopped}
use Rattle.aic_room.proofs.write.Goals as goal

pub returns-then-offset-eq-EOICR : goal.returns-then-offset-eq-EOICR
returns-then-offset-eq-EOICR c = λ a ok h. eoicr-done a _ ok c.if-offset-eq-EOICR.true _ _ (c.end_last.ensures a h (few a ok)) c.answer.ensures

pub returns-then-n-eq-CARRIED_OUT : goal.returns-then-n-eq-CARRIED_OUT
returns-then-n-eq-CARRIED_OUT c =
    λ a ok h. write_done a _ _ _ ok c.access_of.ensures _ _ c.write_refusal-n.ensures c.if-n-eq-CARRIED_OUT.true (c.write_at.ensures a ok h) c.answer-then-n-eq-CARRIED_OUT.ensures

pub returns : goal.returns
returns c =
    λ a ok h. write_stopped a _ _ _ ok c.access_of.ensures _ _ c.write_refusal-n.ensures c.if-n-eq-CARRIED_OUT.false h c.refuse.ensures
