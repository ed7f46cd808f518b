-- That `free_if` of src/holds.rt keeps its contract.
use mathlib.Core.Path.{ap}
use Rattle.words.proofs.ChoiceLaws.{pick_true, pick-false}
use Rattle.cic_held.specs.Held.{with_hosts}
use Rattle.indexed_room.proofs.HoldLaws.{holds_as}
use Rattle.indexed_room.proofs.holds.free_if.Goals as goal

pub returns-then-t : goal.returns-then-t
returns-then-t c = λ p h. holds_as p (ap (with_hosts p.held) (pick_true p.held.host c.if-t.true)) (c.hold_host.ensures p h)

pub returns-else-t : goal.returns-else-t
returns-else-t c = λ p h. holds_as p (ap (with_hosts p.held) (pick-false _ c.if-t.false)) h
