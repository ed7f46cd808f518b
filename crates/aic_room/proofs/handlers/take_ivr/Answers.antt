-- That `take_ivr` of src/handlers.rt keeps its contract.
use mathlib.Core.Path.{refl}
use Rattle.aic_registers.proofs.CallLaws.{ivr-some, ivr-none}
use Rattle.aic_room.proofs.CellLaws.{spurious-is}
use Rattle.aic_room.proofs.HandlerLaws.{gives_as, chosen-room}
use Rattle.aic_room.proofs.handlers.take_ivr.Goals as goal

pub returns-then-k-lt32 : goal.returns-then-k-lt32
returns-then-k-lt32 c =
    λ a h.
    let e = c.chosen-k.ensures a h in
    gives_as (ivr-some a _ e c.if-k-lt32.true) (c.start_now.ensures a h (chosen-room a _ e c.if-k-lt32.true))

pub returns : goal.returns
returns c =
    λ a h. gives_as (ivr-none a _ _ (c.chosen-k.ensures a h) c.if-k-lt32.false refl) (c.open_mark.ensures a h, spurious-is h)
