-- That `read_bare` of src/lib.rt keeps its contract.
use mathlib.Core.Path.{ap, ◌∙◌}
use Rattle.tables.specs.Reading.{taken}
use Rattle.tables.proofs.ReadLaws.{bare-read}
use Rattle.tables.proofs.read_bare.Goals as goal

pub returns-in-Ok : goal.returns-in-Ok
unfolding taken
returns-in-Ok c = ap taken c.table_of.ensures ∙ bare-read c.args.bare.now _ c.in-Ok.ensures

pub returns-in-Err : goal.returns-in-Err
returns-in-Err c = c.refused_at.ensures ∙ bare-read c.args.bare.now _ c.in-Err.ensures
