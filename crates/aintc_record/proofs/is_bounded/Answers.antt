-- That `is_bounded` of src/lib.rt keeps its contract.
use Rattle.aintc_record.specs.Bounds.{bounded}
use Rattle.words.proofs.TruthLaws.{and_parts}
use Rattle.aintc_record.proofs.is_bounded.Goals as goal

pub returns : goal.returns
unfolding bounded
returns c = and_parts c.chosen_bounded.ensures c.chosen_bounded-2.ensures
