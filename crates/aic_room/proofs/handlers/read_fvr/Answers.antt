-- That `read_fvr` of src/handlers.rt keeps its contract.
use native.Mathlib.Omega.{arith}
use Rattle.words.proofs.ChoiceLaws.{by-true, by-false}
use Rattle.aic_registers.specs.Handlers.{fvr_read}
use Rattle.aic_room.proofs.CellLaws.{spurious-is, vector-is}
use Rattle.aic_room.proofs.HandlerLaws.{gives_as}
use Rattle.aic_room.proofs.handlers.read_fvr.Goals as goal

pub returns-then-fast_asks : goal.returns-then-fast_asks
unfolding fvr_read
returns-then-fast_asks c =
    λ a h. gives_as (by-true _ (c.fast_asks.ensures a h) c.if-fast_asks.true) (c.spend_fast.ensures a h, vector-is h 0 (omega arith))

pub returns : goal.returns
unfolding fvr_read
returns c = λ a h. gives_as (by-false _ (c.fast_asks.ensures a h) c.if-fast_asks.false) (h, spurious-is h)
