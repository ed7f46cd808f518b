-- That `started_from` of src/lib.rt keeps its contract.
use Rattle.aic_waits.proofs.FigureLaws.{none_more, mark-more, some_more}
use Rattle.aic_waits.proofs.started_from.Goals as goal

pub returns-then-t-before : goal.returns-then-t-before
returns-then-t-before c = none_more _ _ c.if-t-before.true

pub returns-then-k-eq0 : goal.returns-then-k-eq0
returns-then-k-eq0 c = mark-more _ _ _ c.if-t-before.false c.source_at-k.ensures c.if-k-eq0.true

pub returns : goal.returns
returns c = some_more _ _ _ c.if-t-before.false c.source_at-k.ensures c.if-k-eq0.false
