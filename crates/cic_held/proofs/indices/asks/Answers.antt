-- That `asks` of src/indices.rt keeps its contract.
use Rattle.cic_record.specs.declared.Host.{Host}
use lib.Dec.{eqb}
use mathlib.Core.Bool.{◌||◌}
use mathlib.Core.Path.{ap}
use Rattle.cic_held.proofs.indices.asks.Goals as goal

pub returns : goal.returns
returns c = let a = c.args in ap (λ (x : Host). a.every || eqb x.0 a.h.0) c.host_in-to.ensures.0
