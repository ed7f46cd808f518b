-- That `put_line` of src/slips.rt keeps its contract.
use Rattle.text.proofs.WriteLaws.{and_then}
use Rattle.text.specs.Phrases.{bytes, counted}
use Rattle.tables.proofs.slips.put_line.Goals as goal

pub returns : goal.returns
unfolding bytes counted
returns c =
    rw (← c.line_of-n.ensures) (and_then _ _ _ (and_then _ _ _ c.put_all-a.ensures c.put_decimal-b.ensures) c.put_all.ensures)
