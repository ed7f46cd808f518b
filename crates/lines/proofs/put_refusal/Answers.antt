-- That `put_refusal` of src/lib.rt keeps its contract.
use Rattle.text.proofs.WriteLaws.{and_then}
use Rattle.lines.specs.Listing.{end_line}
use Rattle.lines.proofs.put_refusal.Goals as goal

pub returns : goal.returns
unfolding end_line
returns c = and_then _ _ _ (and_then _ _ _ (and_then _ _ _ c.put-a.ensures c.put_field-b.ensures) c.put_field-c.ensures) c.put.ensures
