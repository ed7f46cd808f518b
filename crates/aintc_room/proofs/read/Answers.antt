-- That `read` of src/lib.rt keeps its contract.
use Rattle.aintc_room.proofs.ReplyLaws.{read_done, read_stopped}
use Rattle.aintc_room.proofs.read.Goals as goal

pub returns-then-n-ne-CARRIED_OUT : goal.returns-then-n-ne-CARRIED_OUT
returns-then-n-ne-CARRIED_OUT c = λ a ok h. read_stopped a _ _ _ _ _ ok c.access_of.ensures (c.number-n.ensures a h) _ c.read_refusal-rest.ensures c.if-n-ne-CARRIED_OUT.true h c.refuse.ensures

pub returns : goal.returns
returns c = λ a ok h. read_done a _ _ _ _ _ ok c.access_of.ensures (c.number-n.ensures a h) _ _ c.read_refusal-rest.ensures c.if-n-ne-CARRIED_OUT.false h (c.read_at.ensures a h) c.answer.ensures
