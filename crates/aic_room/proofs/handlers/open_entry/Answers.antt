-- That `open_entry` of src/handlers.rt keeps its contract.
use mathlib.Core.Path.{ap}
use Prim.Native.Nat.{ℕ, ◌+◌}
use native.Mathlib.Omega.{arith}
use lib.ListN.{set}
use Rattle.aic_record.specs.Record.{with_handlers}
use Rattle.aic_registers.specs.Handlers.{opened}
use Rattle.aic_room.proofs.CellLaws.{laid_as, depth_is}
use Rattle.aic_room.proofs.HandlerLaws.{last-opened}
use Rattle.aic_room.proofs.handlers.open_entry.Goals as goal

pub returns-then-depth-ge8 : goal.returns-then-depth-ge8
returns-then-depth-ge8 c = λ a h l. absurd (omega (arith, depth_is h, l, c.if-depth-ge8.true))

pub returns : goal.returns
unfolding opened
returns c =
    let s = c.args in
    λ a h l. laid_as (ap (λ (d : ℕ). with_handlers a (set a.source d s.k) (set a.level d s.level) (d + 1)) (depth_is h)) (c.put_entry.ensures a h (last-opened h _ _ (omega (arith, c.if-depth-ge8.false))))
