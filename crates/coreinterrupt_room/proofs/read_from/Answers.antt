-- That `read_from` of src/lib.rt keeps its contract.
use mathlib.Core.Path.{sym, ap, ◌∙◌}
use Prim.Native.Nat.{ℕ}
use lib.Dec.{eqb}
use Rattle.words.specs.Choice.{pick}
use Rattle.rooms.specs.Reply.{reply}
use Rattle.coreinterrupt_room.specs.Room.{reply_of, read_from}
use Rattle.coreinterrupt_room.proofs.RoomLaws.{count-is, soft-is, enable-is}
use Rattle.coreinterrupt_room.proofs.StepLaws.{read_soft, read_soft-clear, read_enable, read_enable-clear, read-raw, read-status, read_past}
use Rattle.coreinterrupt_room.proofs.read_from.Goals as goal

pub returns-in-Some-Soft : goal.returns-in-Some-Soft
returns-in-Some-Soft c =
    let i = rw c.in-Some-Soft.field-0-is at c.in-Some-Soft.ensures in
    λ k h. c.answer.ensures ∙ ap (reply 0) (soft-is h _ _ c.first_of-at.ensures.0) ∙ ap reply_of (read_soft k _ ∙ ap (read_from k _) (sym i))

pub returns-in-Some-SoftClear : goal.returns-in-Some-SoftClear
returns-in-Some-SoftClear c =
    let i = rw c.in-Some-SoftClear.field-0-is at c.in-Some-SoftClear.ensures in
    λ k h. c.read_clear.ensures ∙ ap (λ (n : ℕ). pick (eqb n 0) (reply 0 0) (reply 3 0)) (count-is h _ _ c.first_of-at.ensures.0) ∙ read_soft-clear k _
    ∙ ap (λ (n : ℕ). reply_of (read_from k c.args.fast n)) (sym i)

pub returns-in-Some-Enable : goal.returns-in-Some-Enable
returns-in-Some-Enable c =
    let i = rw c.in-Some-Enable.field-0-is at c.in-Some-Enable.ensures in
    λ k h. c.answer-in-Some-Enable.ensures ∙ ap (reply 0) (enable-is h _ _ c.first_of-at.ensures.0) ∙ ap reply_of (read_enable k _ ∙ ap (read_from k _) (sym i))

pub returns-in-Some-EnableClear : goal.returns-in-Some-EnableClear
returns-in-Some-EnableClear c =
    let i = rw c.in-Some-EnableClear.field-0-is at c.in-Some-EnableClear.ensures in
    λ k h. c.read_clear-in-Some-EnableClear.ensures ∙ ap (λ (n : ℕ). pick (eqb n 0) (reply 0 0) (reply 3 0)) (count-is h _ _ c.first_of-at.ensures.0) ∙ read_enable-clear k _
    ∙ ap (λ (n : ℕ). reply_of (read_from k c.args.fast n)) (sym i)

pub returns-in-Some-Raw : goal.returns-in-Some-Raw
returns-in-Some-Raw c =
    let i = rw c.in-Some-Raw.field-0-is at c.in-Some-Raw.ensures in
    λ k h. c.answer-in-Some-Raw.ensures ∙ ap (reply 0) (c.raw.ensures k h) ∙ ap reply_of (read-raw k _ ∙ ap (read_from k _) (sym i))

pub returns-in-Some-Status : goal.returns-in-Some-Status
returns-in-Some-Status c =
    let i = rw c.in-Some-Status.field-0-is at c.in-Some-Status.ensures in
    λ k h. c.answer-in-Some-Status.ensures ∙ ap (reply 0) (c.status.ensures k h) ∙ ap reply_of (read-status k _ ∙ ap (read_from k _) (sym i))

pub returns-in-None : goal.returns-in-None
returns-in-None c = λ k h. c.refuse.ensures ∙ ap reply_of (read_past k _ _ c.in-None.ensures)
