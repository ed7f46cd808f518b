-- That `put_heading` of src/lib.rt keeps its contract.
use Rattle.text.specs.Phrases.{bytes}
use Rattle.table_text.specs.Text.{heading}
use Rattle.table_text.proofs.put_heading.Goals as goal

pub returns : goal.returns
unfolding heading bytes
returns c = c.put_all.ensures
