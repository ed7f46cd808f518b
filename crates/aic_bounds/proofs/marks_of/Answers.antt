-- That `marks_of` of src/lib.rt keeps its contract.
use Rattle.aic_bounds.proofs.MarkLaws.{read_step, write_step, line_step}
use Rattle.aic_bounds.proofs.marks_of.Goals as goal

pub returns-in-Read : goal.returns-in-Read
returns-in-Read c = read_step _ _ _ _ c.in-Read.is c.no_marks.ensures

pub returns-in-Write : goal.returns-in-Write
returns-in-Write c = write_step _ _ _ _ _ c.in-Write.is c.write_marks.ensures

pub returns-in-Line : goal.returns-in-Line
returns-in-Line c = line_step _ _ _ _ _ c.in-Line.is c.line_marks.ensures
