-- That `step_sound` of src/lib.rt keeps its contract.
use mathlib.Core.Path.{sym, ap, ◌∙◌}
use Rattle.steps.specs.declared.Step.{Step}
use Rattle.cic_indexed.specs.Model.{step}
use Rattle.cic_prioritised.proofs.step_sound.Goals as goal

pub returns-in-Read : goal.returns-in-Read
returns-in-Read c = c.read_in.ensures ∙ ap (λ (x : Step). step c.args.p x) (sym c.in-Read.is)

pub returns-in-Write : goal.returns-in-Write
returns-in-Write c = c.write_in.ensures ∙ ap (λ (x : Step). step c.args.p x) (sym c.in-Write.is)

pub returns-in-Line : goal.returns-in-Line
returns-in-Line c = c.line_in.ensures ∙ ap (λ (x : Step). step c.args.p x) (sym c.in-Line.is)
