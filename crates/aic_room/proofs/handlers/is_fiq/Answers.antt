-- That `is_fiq` of src/handlers.rt keeps its contract.
use mathlib.Core.Path.{ap, ◌∙◌}
use Prim.Native.Nat.{ℕ}
use Rattle.words.specs.Word.{bit}
use Rattle.aic_sources.proofs.SideLaws.{fiq-from}
use Rattle.aic_room.proofs.CellLaws.{debug-is}
use Rattle.aic_room.proofs.handlers.is_fiq.Goals as goal

pub returns : goal.returns
returns c = λ a h. fiq-from a _ _ (c.has.ensures ∙ ap (λ (w : ℕ). bit w 1) (debug-is h)) (c.fast_asks.ensures a h)
