-- That `write_marks` of src/waits.rt keeps its contract.
use mathlib.Core.Path.{refl}
use mathlib.Core.Bool.{true}
use Rattle.aic_room.proofs.CellLaws.{edges-is}
use Rattle.aic_bounds.proofs.MarkLaws.{write-from}
use Rattle.aic_figures.proofs.waits.write_marks.Goals as goal

pub returns : goal.returns
returns c =
    let a = c.args in
    λ s ok h. write-from true s a.o a.v (edges-is h) c.meet.ensures c.either-commands.ensures refl refl (c.closed_hot-closed.ensures s ok h)
