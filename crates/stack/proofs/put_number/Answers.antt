-- That `put_number` of src/lib.rt keeps its contract.
use Rattle.text.proofs.WriteLaws.{and_then}
use Rattle.stack.specs.Printed.{number_line}
use Rattle.stack.proofs.put_number.Goals as goal

pub returns : goal.returns
unfolding number_line
returns c =
    and_then _ _ _ (and_then _ _ _ c.put-first.ensures c.put_field-next.ensures) c.put.ensures
