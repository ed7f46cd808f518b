-- That `write_ivr` of src/handlers.rt keeps its contract.
use mathlib.Core.Path.{ap, ◌∙◌}
use Prim.Native.Nat.{ℕ}
use Rattle.words.specs.Word.{bit}
use Rattle.words.proofs.ChoiceLaws.{by-true, by-false}
use Rattle.aic_registers.specs.Handlers.{ivr_written}
use Rattle.aic_room.proofs.CellLaws.{laid_as, debug-is}
use Rattle.aic_room.proofs.handlers.write_ivr.Goals as goal

pub returns-then-has : goal.returns-then-has
unfolding ivr_written
returns-then-has c =
    λ a ok h. laid_as (by-true _ (c.has.ensures ∙ ap (λ (w : ℕ). bit w 0) (debug-is h)) c.if-has.true) (c.begin_seen.ensures a ok h)

pub returns-else-has : goal.returns-else-has
unfolding ivr_written
returns-else-has c = λ a ok h. laid_as (by-false _ (c.has.ensures ∙ ap (λ (w : ℕ). bit w 0) (debug-is h)) c.if-has.false) h
