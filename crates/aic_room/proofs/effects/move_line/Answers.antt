-- That `move_line` of src/effects.rt keeps its contract.
use mathlib.Core.Path.{ap, sym, ◌∙◌}
use Prim.Native.Nat.{ℕ}
use Rattle.words.specs.Word.{with_bit}
use Rattle.aic.proofs.HandlerLaws.{moved-is}
use Rattle.aic_room.proofs.CellLaws.{priority-is, laid_as, lines-is}
use Rattle.aic_room.proofs.OneLaws.{put_source}
use Rattle.aic_room.proofs.effects.move_line.Goals as goal

pub returns : goal.returns
returns c =
    λ a h. laid_as (sym (moved-is a c.args.k c.args.high))
    (c.renew_level.ensures a _
    (put_source h _ _ (priority-is h _ c.requires) _ _ _ _ _ (c.remember-memory.ensures a h) (c.with_bit-lines.ensures ∙ ap (λ (w : ℕ). with_bit w c.args.k c.args.high) (lines-is h))))
