-- That `put_fields` of src/lib.rt keeps its contract.
use Rattle.text.proofs.WriteLaws.{nothing}
use Rattle.register_words.specs.Registers.{fields_at, field_words}
use Rattle.register_words.proofs.put_fields.Goals as goal

pub returns-in-Read : goal.returns-in-Read
unfolding field_words fields_at
returns-in-Read c = rw c.in-Read.is (nothing _)

pub returns-in-Write : goal.returns-in-Write
unfolding field_words fields_at
returns-in-Write c = rw c.in-Write.is c.put_written.ensures

pub returns-in-Line : goal.returns-in-Line
unfolding field_words fields_at
returns-in-Line c = rw c.in-Line.is (nothing _)
