-- That `is_of` of src/indices.rt keeps its contract.
use Rattle.cic_record.specs.declared.Channel.{Channel}
use lib.Dec.{eqb}
use mathlib.Core.Path.{ap}
use Rattle.cic_held.proofs.indices.is_of.Goals as goal

pub returns : goal.returns
returns c = ap (λ (x : Channel). eqb x.0 c.args.k.0) c.channel_in-of.ensures.0
