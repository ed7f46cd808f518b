-- That `start_now` of src/handlers.rt keeps its contract.
use mathlib.Core.Path.{ap}
use Prim.Native.Nat.{ℕ, ◌%◌}
use Rattle.aic_record.specs.Mode.{priority}
use Rattle.aic_registers.specs.Handlers.{started_at}
use Rattle.aic_room.proofs.CellLaws.{laid_as, mode-is, vector-is}
use Rattle.aic_room.proofs.handlers.start_now.Goals as goal

pub returns : goal.returns
unfolding priority
returns c =
    λ a h l. (laid_as (ap (λ (m : ℕ). started_at a c.args.k (m % 8)) (mode-is h _ c.requires)) (c.start_at.ensures a h l), vector-is h _ c.requires)
