-- That `read` of src/lib.rt keeps its contract.
use mathlib.Core.Path.{ap, ◌∙◌}
use Rattle.coreinterrupt.specs.Model.{fiq_offset}
use Rattle.coreinterrupt_room.specs.Room.{reply_of, read_from}
use Rattle.coreinterrupt_room.proofs.StepLaws.{read_same, read-misaligned, read_at}
use Rattle.coreinterrupt_room.proofs.read.Goals as goal

pub returns-then-offset-ne0 : goal.returns-then-offset-ne0
returns-then-offset-ne0 c = λ k ok h. (read_same k _ h, c.refuse.ensures ∙ ap reply_of (read-misaligned k _ ok c.if-offset-ne0.true))

pub returns : goal.returns
unfolding fiq_offset
returns c =
    let a = c.args in
    λ k ok h. (
      read_same k _ h,
      c.read_from.ensures k h ∙ ap reply_of (ap (read_from k (fiq_offset a.offset)) c.register-i.ensures ∙ read_at k a.offset ok c.if-offset-ne0.false),
    )
