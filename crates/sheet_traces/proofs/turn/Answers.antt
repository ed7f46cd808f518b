-- That `turn` of src/lib.rt keeps its contract.
use Rattle.sheet_traces.proofs.turn.Goals as goal

pub returns-then-q-eq-UNSURE : goal.returns-then-q-eq-UNSURE
returns-then-q-eq-UNSURE c = c.slow.ensures.0

pub returns : goal.returns
returns c = c.quick-q.ensures.0 c.if-q-eq-UNSURE.false
