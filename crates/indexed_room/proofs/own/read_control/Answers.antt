-- That `read_control` of src/own.rt keeps its contract.
use mathlib.Core.Path.{refl}
use Rattle.indexed_room.proofs.ReplyLaws.{control-refused, control-read}
use Rattle.indexed_room.proofs.own.read_control.Goals as goal

pub returns-then-n-ne-CARRIED_OUT : goal.returns-then-n-ne-CARRIED_OUT
returns-then-n-ne-CARRIED_OUT c = λ p ok h. control-refused p _ c.read_refusal-n.ensures c.if-n-ne-CARRIED_OUT.true h c.refuse.ensures

pub returns : goal.returns
returns c = λ p ok h. control-read p _ c.read_refusal-n.ensures _ ok c.if-n-ne-CARRIED_OUT.false h refl c.answer.ensures
