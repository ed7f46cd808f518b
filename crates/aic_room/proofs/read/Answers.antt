-- That `read` of src/lib.rt keeps its contract.
use Rattle.aic_room.proofs.ReplyLaws.{few, ivr-done, read_done, read_stopped}
use Rattle.aic_room.proofs.read.Goals as goal

pub returns-then-offset-eq-IVR : goal.returns-then-offset-eq-IVR
returns-then-offset-eq-IVR c = λ a ok h. ivr-done a _ ok c.if-offset-eq-IVR.true _ _ (c.read_ivr-value.ensures a h) c.answer.ensures

pub returns-then-n-eq-CARRIED_OUT : goal.returns-then-n-eq-CARRIED_OUT
returns-then-n-eq-CARRIED_OUT c =
    λ a ok h. read_done a _ _ _ ok c.access_of.ensures _ _ c.read_refusal-n.ensures c.if-n-eq-CARRIED_OUT.true (c.read_at-value.ensures a h (few a ok)) c.answer-then-n-eq-CARRIED_OUT.ensures

pub returns : goal.returns
returns c =
    λ a ok h. read_stopped a _ _ _ ok c.access_of.ensures _ c.read_refusal-n.ensures c.if-n-eq-CARRIED_OUT.false h c.refuse.ensures
