-- That `write_debug` of src/effects.rt keeps its contract.
use Rattle.words.proofs.ChoiceLaws.{by-true, by-false}
use Rattle.aic_registers.specs.Effects.{debug_by}
use Rattle.aic_room.proofs.CellLaws.{laid_as, put_debug}
use Rattle.aic_room.proofs.effects.write_debug.Goals as goal

pub returns-then-has : goal.returns-then-has
unfolding debug_by
returns-then-has c = λ a h. laid_as (by-true _ c.has.ensures c.if-has.true) (put_debug h _ _ c.keep-w.ensures)

pub returns : goal.returns
unfolding debug_by
returns c =
    λ a h. laid_as (by-false _ c.has.ensures c.if-has.false) (c.put_seen.ensures _ (put_debug h _ _ c.keep-w.ensures))
