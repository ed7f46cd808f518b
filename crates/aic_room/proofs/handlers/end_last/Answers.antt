-- That `end_last` of src/handlers.rt keeps its contract.
use mathlib.Core.Path.{sym, ap, ◌∙◌}
use Prim.Native.Nat.{ℕ, ◌-◌}
use native.Mathlib.Omega.{arith}
use borrow.Author.Tests.{eq-eqb, ne_eqb}
use lib.ListN.{set}
use Rattle.words.proofs.ChoiceLaws.{pick_true, pick-false}
use Rattle.aic_record.specs.Record.{with_handlers}
use Rattle.aic_registers.specs.Handlers.{ended, closed_last}
use Rattle.aic_room.proofs.CellLaws.{laid_as, depth_is}
use Rattle.aic_room.proofs.HandlerLaws.{last_closed}
use Rattle.aic_room.proofs.handlers.end_last.Goals as goal

pub returns-then-depth-eq0 : goal.returns-then-depth-eq0
unfolding ended
returns-then-depth-eq0 c = λ a h l. laid_as (pick_true _ (eq-eqb _ _ (sym (depth_is h) ∙ c.if-depth-eq0.true))) h

pub returns-then-depth-gt8 : goal.returns-then-depth-gt8
returns-then-depth-gt8 c = λ a h l. absurd (omega (arith, depth_is h, l, c.if-depth-gt8.true))

pub returns : goal.returns
unfolding ended closed_last
returns c =
    λ a h l. laid_as
    (ap (λ (d : ℕ). with_handlers a (set a.source (d - 1) 0) (set a.level (d - 1) 0) (d - 1)) (depth_is h) ∙ pick-false a (ne_eqb a.depth 0 (λ z. c.if-depth-eq0.false (depth_is h ∙ z))))
    (c.put_entry.ensures a h (last_closed h _ (c.level_below-last.ensures a h (omega (arith, c.if-depth-gt8.false)))))
