-- That `start` of src/lib.rt keeps its contract.
use mathlib.Core.Path.{ap, ◌∙◌}
use Rattle.cic_record.specs.Record.{begun}
use Rattle.steps.specs.Refusals.{carried_out, misconfigured}
use Rattle.cic_record.specs.Start.{start}
use Rattle.words.proofs.ChoiceLaws.{by-true, by-false}
use Rattle.cic_record.proofs.start.Goals as goal

pub returns-then-all_within : goal.returns-then-all_within
unfolding start
returns-then-all_within c = ap (begun carried_out) c.make-c.ensures ∙ by-true _ c.all_within.ensures c.if-all_within.true

pub returns : goal.returns
unfolding start
returns c = ap (begun misconfigured) c.make-none.ensures ∙ by-false _ c.all_within.ensures c.if-all_within.false
