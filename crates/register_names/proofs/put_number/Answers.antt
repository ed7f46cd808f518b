-- That `put_number` of src/lib.rt keeps its contract.
use Rattle.register_names.proofs.TableLaws.{number_of, no_number}
use Rattle.register_names.proofs.put_number.Goals as goal

pub returns-then-step-eq0 : goal.returns-then-step-eq0
returns-then-step-eq0 c = no_number _ _ _ _ c.if-step-eq0.true

pub returns : goal.returns
returns c =
    number_of _ _ _ _ _ _ c.if-step-eq0.false c.nth.ensures c.put_decimal.ensures
