-- That `lay_chosen` of src/layout.rt keeps its contract.
use mathlib.Core.Path.{ap}
use Prim.Native.Nat.{ℕ, ◌+◌}
use lib.ListN.{set}
use Rattle.aintc_room.proofs.layout.lay_chosen.Goals as goal

pub returns : goal.returns
returns c =
    let a = c.args in
    ap (λ (x : ℕ). set (set (set a.room.now a.at x) (a.at + 1) a.c.number) (a.at + 2) a.c.priority) c.one_if.ensures
