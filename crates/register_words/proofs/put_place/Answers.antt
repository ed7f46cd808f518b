-- That `put_place` of src/lib.rt keeps its contract.
use Rattle.register_words.specs.Registers.{place_at, place_words}
use Rattle.register_words.proofs.put_place.Goals as goal

pub returns-in-Read : goal.returns-in-Read
unfolding place_words place_at
returns-in-Read c = rw c.in-Read.is c.put_register.ensures

pub returns-in-Write : goal.returns-in-Write
unfolding place_words place_at
returns-in-Write c = rw c.in-Write.is c.put_register-in-Write.ensures

pub returns-in-Line : goal.returns-in-Line
unfolding place_words place_at
returns-in-Line c = rw c.in-Line.is c.put_line.ensures
