-- That `step_sound` of src/lib.rt keeps its contract.
use Rattle.coreinterrupt.specs.Model.{step}
use mathlib.Core.Path.{sym, ap, ◌∙◌}
use Rattle.coreinterrupt.proofs.step_sound.Goals as goal

pub returns-in-Read : goal.returns-in-Read
returns-in-Read c = c.read_sound.ensures ∙ sym (ap (step c.args.c) c.in-Read.is)

pub returns-in-Write : goal.returns-in-Write
returns-in-Write c = c.write_sound.ensures ∙ sym (ap (step c.args.c) c.in-Write.is)

pub returns-in-Line : goal.returns-in-Line
returns-in-Line c = c.line_sound.ensures ∙ sym (ap (step c.args.c) c.in-Line.is)
