-- That `open_mark` of src/handlers.rt keeps its contract.
use mathlib.Core.Path.{ap, ◌∙◌}
use Prim.Native.Nat.{ℕ, ◌+◌, ◌<◌}
use native.Mathlib.Omega.{arith}
use borrow.Author.Tests.{le-ltb}
use lib.ListN.{get_or, set}
use Rattle.words.proofs.ChoiceLaws.{pick-false}
use Rattle.aic_record.specs.Record.{with_handlers}
use Rattle.aic_registers.specs.Handlers.{marked}
use Rattle.aic_registers.proofs.CallLaws.{marked_by}
use Rattle.aic_room.proofs.CellLaws.{laid_as, depth_is, last-is}
use Rattle.aic_room.proofs.HandlerLaws.{last-opened}
use Rattle.aic_room.proofs.handlers.open_mark.Goals as goal

pub returns-then-depth-ge8 : goal.returns-then-depth-ge8
unfolding marked
returns-then-depth-ge8 c = λ a h. laid_as (pick-false _ (le-ltb a.depth 8 (omega (arith, depth_is h, c.if-depth-ge8.true)))) h

pub returns : goal.returns
returns c =
    let room = c.args.room.now in
    λ a h.
    let l : a.depth < 8 = omega (arith, depth_is h, c.if-depth-ge8.false) in
    laid_as (ap (λ (d : ℕ). with_handlers a (set a.source d 0) (set a.level d (get_or room 19 0)) (d + 1)) (depth_is h) ∙ marked_by a _ l (last-is h))
    (c.put_entry.ensures a h (last-opened h _ _ (omega (arith, c.if-depth-ge8.false))))
