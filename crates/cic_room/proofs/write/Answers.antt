-- That `write` of src/lib.rt keeps its contract.
use mathlib.Core.Path.{refl}
use Rattle.cic_registers.proofs.StepLaws.{misaligned-write, aligned-write}
use Rattle.cic_room.proofs.ReplyLaws.{done_as}
use Rattle.cic_room.proofs.write.Goals as goal

pub returns-then-offset-ne0 : goal.returns-then-offset-ne0
returns-then-offset-ne0 c = let a = c.args in λ f d ok h. done_as (misaligned-write d a.offset a.value c.if-offset-ne0.true) (h, c.refuse.ensures)

pub returns : goal.returns
returns c = let a = c.args in λ f d ok h. done_as (aligned-write d a.offset a.value c.if-offset-ne0.false refl) (c.write_at.ensures f d ok h)
