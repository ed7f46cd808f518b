-- That `if_any` of src/reads.rt keeps its contract.
use mathlib.Core.Path.{ap, ◌∙◌}
use native.Mathlib.Omega.{arith}
use borrow.Author.Tests.{lt-ltb, le-ltb}
use Rattle.words.proofs.ChoiceLaws.{pick_true, pick-false}
use Rattle.cic_room.specs.Reply.{read_reply}
use Rattle.cic_room.proofs.reads.if_any.Goals as goal

pub returns-then-first-n : goal.returns-then-first-n
returns-then-first-n c = let a = c.args in c.answer.ensures ∙ ap read_reply (pick_true _ (lt-ltb a.first a.n c.if-first-n.true))

pub returns : goal.returns
returns c = let a = c.args in c.refuse.ensures ∙ ap read_reply (pick-false _ (le-ltb a.first a.n (omega (arith, c.if-first-n.false))))
