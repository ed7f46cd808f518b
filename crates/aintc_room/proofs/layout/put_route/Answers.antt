-- That `put_route` of src/layout.rt keeps its contract.
use Rattle.aintc_room.proofs.RouteLaws.{put_routes}
use Rattle.aintc_room.proofs.layout.put_route.Goals as goal

pub returns : goal.returns
returns c =
    let f = c.requires in
    λ a h. put_routes a _ _ f.0 h _ _ f.1 c.with_bit-fiqs.ensures c.put_bits.ensures
