-- That `grown` of src/waits/bounds.rt keeps its contract.
use mathlib.Core.Path.{refl, ap, ◌∙◌}
use Rattle.words.specs.Word.{both}
use Rattle.aic_room.proofs.CellLaws.{enabled-is}
use Rattle.aic_bounds.proofs.WordLaws.{grown-from}
use Rattle.aic_figures.proofs.waits.bounds.grown.Goals as goal

pub returns : goal.returns
returns c =
    let a = c.args in
    λ t ok h. grown-from a.w a.b a.n a.m t (c.meet-enabled.ensures ∙ ap (both a.b.rivals) (enabled-is h)) c.join-on.ensures c.drop_bits-first.ensures refl (c.with_due-pending.ensures t ok h)
    c.plus-edges.ensures c.plus-commands.ensures c.plus-turns.ensures c.plus-closed.ensures c.either-broke.ensures
