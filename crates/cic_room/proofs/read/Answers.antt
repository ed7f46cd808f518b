-- That `read` of src/lib.rt keeps its contract.
use Rattle.cic_registers.proofs.StepLaws.{misaligned-read}
use Rattle.cic_room.proofs.ReplyLaws.{done_as, read_done}
use Rattle.cic_room.proofs.read.Goals as goal

pub returns-then-offset-ne0 : goal.returns-then-offset-ne0
returns-then-offset-ne0 c = let a = c.args in λ f d ok h. done_as (misaligned-read d a.offset c.if-offset-ne0.true) (h, c.refuse.ensures)

pub returns : goal.returns
returns c = let a = c.args in λ f d ok h. read_done a.offset c.if-offset-ne0.false h (c.read_at.ensures f d ok h)
