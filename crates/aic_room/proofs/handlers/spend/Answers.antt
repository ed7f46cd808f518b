-- That `spend` of src/handlers.rt keeps its contract.
use mathlib.Core.Path.{ap, ◌∙◌}
use mathlib.Core.Bool.{false}
use Prim.Native.Nat.{ℕ}
use Rattle.words.specs.Word.{bit, with_bit}
use Rattle.words.proofs.ChoiceLaws.{by-true, by-false}
use Rattle.aic_sources.proofs.PendingLaws.{bit-edges}
use Rattle.aic_registers.specs.Handlers.{spent}
use Rattle.aic_room.proofs.CellLaws.{priority-is, laid_as, edges-is, memory-is}
use Rattle.aic_room.proofs.OneLaws.{put-spent}
use Rattle.aic_room.proofs.handlers.spend.Goals as goal

pub returns-then-has : goal.returns-then-has
unfolding spent
returns-then-has c =
    λ a h. laid_as (by-true _ (c.has.ensures ∙ ap (λ (n : ℕ). bit n c.args.k) (edges-is h) ∙ bit-edges a _ c.requires) c.if-has.true)
    (c.renew_level.ensures a _ (put-spent h _ _ (priority-is h _ c.requires) _ _ (c.with_bit-w.ensures ∙ ap (λ (n : ℕ). with_bit n c.args.k false) (memory-is h))))

pub returns-else-has : goal.returns-else-has
unfolding spent
returns-else-has c =
    λ a h. laid_as (by-false _ (c.has.ensures ∙ ap (λ (n : ℕ). bit n c.args.k) (edges-is h) ∙ bit-edges a _ c.requires) c.if-has.false) h
