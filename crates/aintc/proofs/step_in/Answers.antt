-- That `step_in` of src/lib.rt keeps its contract.
use mathlib.Core.Path.{sym, ap}
use Rattle.aintc_registers.specs.Model.{step}
use Rattle.aintc_room.proofs.ReplyLaws.{done_as}
use Rattle.aintc.proofs.step_in.Goals as goal

pub returns-in-Read : goal.returns-in-Read
returns-in-Read c = λ a ok h. done_as (sym (ap (step a c.args.privilege) c.in-Read.is)) (c.read.ensures a ok h)

pub returns-in-Write : goal.returns-in-Write
returns-in-Write c = λ a ok h. done_as (sym (ap (step a c.args.privilege) c.in-Write.is)) (c.write.ensures a ok h)

pub returns-in-Line : goal.returns-in-Line
returns-in-Line c = λ a ok h. done_as (sym (ap (step a c.args.privilege) c.in-Line.is)) (c.line.ensures a ok h)
