-- That `step_in` of src/lib.rt keeps its contract.
use mathlib.Core.Path.{◌∙◌}
use mathlib.Core.Bool.{true}
use Rattle.cic_registers.proofs.StepLaws.{step-read, step-write, step_line}
use Rattle.cic.proofs.step_in.Goals as goal

pub returns-in-Read : goal.returns-in-Read
returns-in-Read c = c.read_in.ensures ∙ step-read true c.args.c _ c.in-Read.is

pub returns-in-Write : goal.returns-in-Write
returns-in-Write c = c.write_in.ensures ∙ step-write true c.args.c _ _ c.in-Write.is

pub returns-in-Line : goal.returns-in-Line
returns-in-Line c = c.line_in.ensures ∙ step_line true c.args.c _ _ c.in-Line.is
