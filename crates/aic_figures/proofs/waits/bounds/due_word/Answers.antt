-- That `due_word` of src/waits/bounds.rt keeps its contract.
use Rattle.aic_room.proofs.CellLaws.{edges-is}
use Rattle.aic_room.proofs.LevelLaws.{laid-stale}
use Rattle.aic_bounds.proofs.WordLaws.{dues-from}
use Rattle.aic_figures.proofs.waits.bounds.due_word.Goals as goal

pub returns : goal.returns
returns c =
    λ t ok h. dues-from t (c.pending-pending.ensures t (laid-stale h)) (c.held_word.ensures t ok h) c.drop_bits-free.ensures (c.pending-pending.ensures t (laid-stale h)) (edges-is h) c.meet.ensures c.join.ensures
