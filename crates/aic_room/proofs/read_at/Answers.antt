-- That `read_at` of src/lib.rt keeps its contract.
use mathlib.Core.Path.{◌∙◌}
use borrow.Author.Tests.{ne_eqb}
use Rattle.words.specs.Choice.{pick}
use Rattle.words.proofs.ChoiceLaws.{pick-false}
use Rattle.aic_registers.specs.Registers.{read_at}
use Rattle.aic_room.proofs.HandlerLaws.{gives_as}
use Rattle.aic_room.proofs.ReplyLaws.{gives_at}
use Rattle.aic_room.proofs.read_at.Goals as goal

pub returns-in-256 : goal.returns-in-256
unfolding read_at pick
returns-in-256 c = λ a h l. gives_at (read_at a) c.in-256.is (c.read_ivr.ensures a h)

pub returns-in-260 : goal.returns-in-260
unfolding read_at pick
returns-in-260 c = λ a h l. gives_at (read_at a) c.in-260.is (c.read_fvr.ensures a h)

pub returns-in_default : goal.returns-in_default
unfolding read_at
returns-in_default c =
    λ a h l. gives_as (pick-false _ (ne_eqb _ _ c.in_default.in_default-own.rest.1) ∙ pick-false _ (ne_eqb _ _ c.in_default.in_default-own.rest.0.1)) (h, c.read_stored.ensures a h l)
