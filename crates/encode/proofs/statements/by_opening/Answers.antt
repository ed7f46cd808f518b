-- That `by_opening` of src/statements.rt keeps its contract.
use Rattle.encode.specs.Passes.{by_opened}
use Rattle.encode.proofs.statements.by_opening.Goals as goal

pub returns-in-Ok : goal.returns-in-Ok
unfolding by_opened
returns-in-Ok c = rw c.in-Ok.is c.by_numbers.ensures

pub returns-in-Err : goal.returns-in-Err
unfolding by_opened
returns-in-Err c = rw c.in-Err.is c.expects.ensures
