-- That `put_limit` of src/lib.rt keeps its contract.
use Rattle.register_words.specs.Registers.{limit_at, limit_words}
use Rattle.register_words.proofs.put_limit.Goals as goal

pub returns-in-Read : goal.returns-in-Read
unfolding limit_words limit_at
returns-in-Read c = rw c.in-Read.is c.put_access.ensures

pub returns-in-Write : goal.returns-in-Write
unfolding limit_words limit_at
returns-in-Write c = rw c.in-Write.is c.put_access-in-Write.ensures

pub returns-in-Line : goal.returns-in-Line
unfolding limit_words limit_at
returns-in-Line c = rw c.in-Line.is c.put_level.ensures
