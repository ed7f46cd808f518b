-- That `wisteria_figures` of src/lib.rt keeps its contract.
use mathlib.Core.Path.{ap}
use Rattle.tally.specs.declared.Tallied.{Tallied}
use Rattle.exports.proofs.wisteria_figures.Goals as goal

pub returns : goal.returns
returns c =
    let e = c.figures-t.ensures in
    record {
      refused = ap (λ (t : Tallied). t.refused) e;
      handlers = ap (λ (t : Tallied). t.figures.started) e;
      meanwhile = ap (λ (t : Tallied). t.figures.waited) e;
      deepest = ap (λ (t : Tallied). t.figures.entries) e;
    }
