-- That `wisteria_steps` of src/lib.rt keeps its contract.
use mathlib.Core.Path.{ap}
use Rattle.beginning.specs.declared.reports.Played.{Played}
use Rattle.exports.proofs.wisteria_steps.Goals as goal

pub returns : goal.returns
returns c = ap (λ (p : Played). p.steps) c.play-p.ensures
