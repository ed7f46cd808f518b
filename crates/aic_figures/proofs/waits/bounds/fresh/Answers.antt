-- That `fresh` of src/waits/bounds.rt keeps its contract.
use mathlib.Core.Path.{refl, ap, ◌∙◌}
use Rattle.words.specs.Word.{both}
use Rattle.aic_room.proofs.CellLaws.{enabled-is}
use Rattle.aic_bounds.proofs.WordLaws.{fresh-from}
use Rattle.aic_figures.proofs.BoundLaws.{plus-first}
use Rattle.aic_figures.proofs.waits.bounds.fresh.Goals as goal

pub returns : goal.returns
returns c =
    let a = c.args in
    λ t ok h. fresh-from a.k t (c.rivals-ahead.ensures t h) (c.meet-on.ensures ∙ ap (both c.rivals-ahead.result) (enabled-is h)) refl refl (plus-first _ _ (c.with_due-pending.ensures t ok h)) (c.is_carried.ensures t h) c.one_if-remembered.ensures
