-- That `due_word` of src/lib.rt keeps its contract.
use Rattle.aic_bounds.proofs.WordLaws.{dues-from}
use Rattle.aic_bounds.proofs.due_word.Goals as goal

pub returns : goal.returns
returns c =
    dues-from c.args.s c.pending_word.ensures c.held_word.ensures c.drop_bits-free.ensures c.pending_word-2.ensures
    c.edge_word.ensures c.meet.ensures c.join.ensures
