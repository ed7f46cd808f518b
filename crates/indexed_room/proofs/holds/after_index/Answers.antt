-- That `after_index` of src/holds.rt keeps its contract.
use Rattle.indexed_room.proofs.HoldLaws.{after_none}
use Rattle.indexed_room.proofs.holds.after_index.Goals as goal

pub returns-then-v-ge256 : goal.returns-then-v-ge256
returns-then-v-ge256 c = λ p h. after_none p _ h.framed.held c.if-v-ge256.true (c.hold_global.ensures p h)

pub returns : goal.returns
returns c = λ p h. c.hold_global-2.ensures _ (c.hold_host.ensures p h)
