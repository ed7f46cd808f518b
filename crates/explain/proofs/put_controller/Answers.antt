-- That `put_controller` of src/lib.rt keeps its contract.
use Rattle.explain.proofs.StatedLaws.{controlled}
use Rattle.explain.proofs.put_controller.Goals as goal

pub returns : goal.returns
returns c = controlled _ _ _ _ _ _ _ c.put_kind-a.ensures c.wanted-n.ensures c.read_at-first.ensures.1 c.put_numbers.ensures
