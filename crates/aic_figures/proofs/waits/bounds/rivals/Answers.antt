-- That `rivals` of src/waits/bounds.rt keeps its contract.
use mathlib.Core.Path.{ap, ◌∙◌}
use native.Mathlib.Omega.{arith}
use Rattle.words.specs.Word.{either}
use Rattle.aic_room.proofs.CellLaws.{priority-is, forced-is}
use Rattle.aic_figures.proofs.BoundLaws.{class-is, rivals-from}
use Rattle.aic_figures.proofs.waits.bounds.rivals.Goals as goal

pub returns : goal.returns
returns c =
    let a = c.args in
    λ t h. rivals-from t a.k (priority-is h a.k c.requires) (c.above.ensures t h) (class-is h _ (omega arith)) c.keep-before.ensures c.join-ahead.ensures
    (c.join.ensures ∙ ap (either 1) (forced-is h)) c.drop_bits.ensures
