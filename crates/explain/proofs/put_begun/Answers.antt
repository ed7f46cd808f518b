-- That `put_begun` of src/lib.rt keeps its contract.
use Rattle.beginning.proofs.BeginningLaws.{begin-ready}
use Rattle.explain.proofs.ExplainLaws.{started}
use Rattle.explain.proofs.put_begun.Goals as goal

pub put_steps-requires : goal.put_steps-requires
put_steps-requires c = let p = c.requires in begin-ready _ _ p.0 p.1

pub returns : goal.returns
returns c = started _ _ _ _ _ _ _ c.put_head-a.ensures c.put_steps.ensures
