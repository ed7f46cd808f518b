-- That `start_refusal` of src/controller.rt keeps its contract.
use mathlib.Core.Path.{◌∙◌}
use Rattle.words.proofs.ChoiceLaws.{by-true, by-false}
use Rattle.machine_room.specs.Controller.{start_refusal}
use Rattle.machine_room.proofs.controller.start_refusal.Goals as goal

pub returns-then-is_kind : goal.returns-then-is_kind
unfolding start_refusal
returns-then-is_kind c = c.numbers_refusal.ensures ∙ by-true _ c.is_kind.ensures c.if-is_kind.true

pub returns : goal.returns
unfolding start_refusal
returns c = by-false _ c.is_kind.ensures c.if-is_kind.false
