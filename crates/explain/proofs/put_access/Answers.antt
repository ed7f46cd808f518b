-- That `put_access` of src/lib.rt keeps its contract.
use Rattle.text.proofs.WriteLaws.{nothing}
use Rattle.explain.proofs.put_access.Goals as goal

pub returns-in-Read : goal.returns-in-Read
returns-in-Read c = rw c.in-Read.is c.put_value.ensures

pub returns-in-Write : goal.returns-in-Write
returns-in-Write c = rw c.in-Write.is c.put_fields.ensures

pub returns-in-Line : goal.returns-in-Line
returns-in-Line c = rw c.in-Line.is (nothing _)
