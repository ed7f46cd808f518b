-- That `is_active` of src/waits.rt keeps its contract.
use Prim.Native.Nat.{ℕ}
use mathlib.Core.Path.{ap, ◌∙◌}
use Rattle.words.specs.Word.{bit}
use Rattle.aic_sources.specs.Pending.{active_at, active}
use Rattle.aic_room.proofs.CellLaws.{lines-is}
use Rattle.aic_figures.proofs.waits.is_active.Goals as goal

pub returns : goal.returns
unfolding active
returns c =
    let a = c.args in
    λ s h. c.is_active_at.ensures s h ∙ ap (active_at s a.k) (c.has.ensures ∙ ap (λ (w : ℕ). bit w a.k) (lines-is h))
