-- That `read_route` of src/lib.rt keeps its contract.
use mathlib.Core.Path.{ap}
use Rattle.aintc_record.specs.Route.{route_value}
use Rattle.aintc_room.proofs.CellLaws.{route-is}
use Rattle.aintc_room.proofs.ReplyLaws.{route-none}
use Rattle.aintc_room.proofs.read_route.Goals as goal

pub returns-then-k-ge128 : goal.returns-then-k-ge128
returns-then-k-ge128 c = λ a h. route-none a _ h.shaped.3 c.if-k-ge128.true

pub returns : goal.returns
returns c = λ a h. ap route_value (route-is h _ c.if-k-ge128.false)
