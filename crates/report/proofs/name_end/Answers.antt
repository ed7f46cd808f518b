-- That `name_end` of src/lib.rt keeps its contract.
use mathlib.Core.Path.{sym}
use Rattle.report.proofs.LineLaws.{name-short, name-whole, name-empty, name-beyond}
use Rattle.report.proofs.name_end.Goals as goal

pub returns-then-e-at : goal.returns-then-e-at
returns-then-e-at c = sym (name-empty _ _ _ c.if-e-at.true)

pub returns-then-s-last-eq-CARRIAGE_RETURN : goal.returns-then-s-last-eq-CARRIAGE_RETURN
returns-then-s-last-eq-CARRIAGE_RETURN c = sym (name-short _ _ _ c.if-e-at.false c.if-s-last-eq-CARRIAGE_RETURN.true)

pub returns-else-s-last-eq-CARRIAGE_RETURN : goal.returns-else-s-last-eq-CARRIAGE_RETURN
returns-else-s-last-eq-CARRIAGE_RETURN c = sym (name-whole _ _ _ c.if-s-last-eq-CARRIAGE_RETURN.false)

pub returns-else-last-s : goal.returns-else-last-s
returns-else-last-s c = sym (name-beyond _ _ _ c.if-last-s.false)
