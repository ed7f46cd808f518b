-- That `put_space` of src/names.rt keeps its contract.
use mathlib.Core.Path.{sym}
use lib.Seq.{set_out}
use Rattle.tables.proofs.names.put_space.Goals as goal

pub returns-else-i-text : goal.returns-else-i-text
returns-else-i-text c = sym (set_out _ _ _ c.if-i-text.false)
