-- That `read_ivr` of src/handlers.rt keeps its contract.
use mathlib.Core.Path.{ap, ◌∙◌}
use Prim.Native.Nat.{ℕ}
use Rattle.words.specs.Word.{bit}
use Rattle.words.proofs.ChoiceLaws.{by-true, by-false}
use Rattle.aic_registers.specs.Handlers.{ivr_read}
use Rattle.aic_room.proofs.CellLaws.{debug-is}
use Rattle.aic_room.proofs.HandlerLaws.{gives_as}
use Rattle.aic_room.proofs.handlers.read_ivr.Goals as goal

pub returns-then-has : goal.returns-then-has
unfolding ivr_read
returns-then-has c =
    λ a h. gives_as (by-true _ (c.has.ensures ∙ ap (λ (w : ℕ). bit w 0) (debug-is h)) c.if-has.true) (c.look_ivr.ensures a h)

pub returns : goal.returns
unfolding ivr_read
returns c =
    λ a h. gives_as (by-false _ (c.has.ensures ∙ ap (λ (w : ℕ). bit w 0) (debug-is h)) c.if-has.false) (c.take_ivr.ensures a h)
