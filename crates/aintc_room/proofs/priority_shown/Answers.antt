-- That `priority_shown` of src/lib.rt keeps its contract.
use mathlib.Core.Path.{ap, ◌∙◌}
use Prim.Native.Nat.{ℕ, ◌+◌}
use lib.ListN.{get_or}
use Rattle.aintc_room.proofs.CellLaws.{priority-is}
use Rattle.aintc_room.proofs.ReplyLaws.{shown-none, shown-some}
use Rattle.aintc_room.proofs.priority_shown.Goals as goal

pub returns-then-room-at-eq0 : goal.returns-then-room-at-eq0
returns-then-room-at-eq0 c = λ a h. shown-none h c.args.fast _ _ c.place_of-at.ensures.0 c.if-room-at-eq0.true

pub returns : goal.returns
returns c =
    λ a h. ap (λ (n : ℕ). get_or c.args.room.now (n + 2) 0) c.place_of-at.ensures.0 ∙ priority-is h c.args.fast ∙ shown-some h c.args.fast _ _ c.place_of-at.ensures.0 c.if-room-at-eq0.false
