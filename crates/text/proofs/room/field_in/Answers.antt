-- That `field_in` of src/room.rt keeps its contract.
use mathlib.Core.Path.{ap, ◌∙◌}
use Rattle.text.specs.Text.{field, write}
use Rattle.text.proofs.DigitLaws.{last-single}
use Rattle.text.proofs.WriteLaws.{and_then}
use Rattle.text.proofs.RoomLaws.{field-stands}
use borrow.Author.Rules.{rules}
use Rattle.text.proofs.room.field_in.Goals as goal

pub returns-then-n-lt10 : goal.returns-then-n-lt10
unfolding field
returns-then-n-lt10 c =
    field-stands _ _ _ (search rules) (and_then _ _ _ c.put_in-next.ensures.0 (c.one_in.ensures.0 ∙ ap (write _) (last-single 19 _ c.if-n-lt10.true)))

pub returns : goal.returns
unfolding field
returns c =
    field-stands _ _ _ (search rules) (and_then _ _ _ c.put_in-next.ensures.0 c.decimal_in.ensures.0)
