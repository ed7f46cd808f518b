-- That `put_field` of src/lib.rt keeps its contract.
use Rattle.text.specs.Text.{field}
use Rattle.text.proofs.WriteLaws.{and_then}
use Rattle.text.proofs.put_field.Goals as goal

pub returns : goal.returns
unfolding field
returns c =
    and_then _ _ _ c.put-next.ensures c.put_decimal.ensures
