-- That `step_in` of src/pair.rt keeps its contract.
use mathlib.Core.Path.{sym, ap}
use Rattle.aic.specs.Model.{step}
use Rattle.aic_room.proofs.ReplyLaws.{done_as}
use Rattle.aic_room.proofs.pair.step_in.Goals as goal

pub returns-in-Read : goal.returns-in-Read
returns-in-Read c = λ a ok h. done_as (sym (ap (step a) c.in-Read.is)) (c.read.ensures a ok h)

pub returns-in-Write : goal.returns-in-Write
returns-in-Write c = λ a ok h. done_as (sym (ap (step a) c.in-Write.is)) (c.write.ensures a ok h)

pub returns-in-Line : goal.returns-in-Line
returns-in-Line c = λ a ok h. done_as (sym (ap (step a) c.in-Line.is)) (c.line.ensures a ok h)
