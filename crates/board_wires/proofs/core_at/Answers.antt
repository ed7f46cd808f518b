-- That `core_at` of src/lib.rt keeps its contract.
use Rattle.board_wires.specs.Wires.{core_at}
use Rattle.coreinterrupt.specs.Model.{core_of}
use Rattle.words.proofs.ChoiceLaws.{pick_true, pick-false}
use mathlib.Core.Path.{ap₂, ◌∙◌}
use borrow.Author.Tests.{lt-ltb, le-ltb}
use Rattle.board_wires.proofs.core_at.Goals as goal

pub returns-then-c-lt8 : goal.returns-then-c-lt8
unfolding core_at
returns-then-c-lt8 c = pick_true _ (lt-ltb _ _ c.if-c-lt8.true)

pub returns : goal.returns
unfolding core_at
returns c = ap₂ core_of c.idle.ensures c.idle-2.ensures ∙ pick-false _ (le-ltb _ _ c.if-c-lt8.false)
