-- That `look_ivr` of src/handlers.rt keeps its contract.
use mathlib.Core.Path.{refl}
use Rattle.aic_registers.proofs.CallLaws.{seen-from, look-some, look_none}
use Rattle.aic_room.proofs.CellLaws.{spurious-is, priority-is, vector-is}
use Rattle.aic_room.proofs.HandlerLaws.{gives_as}
use Rattle.aic_room.proofs.handlers.look_ivr.Goals as goal

pub returns-then-k-lt32 : goal.returns-then-k-lt32
returns-then-k-lt32 c =
    λ a h.
    let v = vector-is h c.chosen-k.result c.if-k-lt32.true in
    gives_as (look-some a _ _ _ (c.chosen-k.ensures a h) c.if-k-lt32.true (seen-from a _ _ _ (priority-is h _ c.if-k-lt32.true) v) v) (c.put_seen.ensures a h, refl)

pub returns : goal.returns
returns c =
    λ a h. gives_as (look_none a _ _ (c.chosen-k.ensures a h) c.if-k-lt32.false refl) (c.put_seen-2.ensures a h, spurious-is h)
