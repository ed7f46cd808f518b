-- That `is_named` of src/lib.rt keeps its contract.
use Rattle.board.specs.Model.{is_named}
use mathlib.Core.Path.{sym, ap, ◌∙◌}
use Rattle.board.proofs.is_named.Goals as goal

pub returns-in-Nothing : goal.returns-in-Nothing
unfolding is_named
returns-in-Nothing c = sym (ap (is_named c.args.b) c.in-Nothing.is)

pub returns-in-Pin : goal.returns-in-Pin
unfolding is_named
returns-in-Pin c = sym (ap (is_named c.args.b) c.in-Pin.is)

pub returns-in-Irq : goal.returns-in-Irq
unfolding is_named
returns-in-Irq c = c.is_there.ensures ∙ sym (ap (is_named c.args.b) c.in-Irq.is)

pub returns-in-Fiq : goal.returns-in-Fiq
unfolding is_named
returns-in-Fiq c = c.is_there-in-Fiq.ensures ∙ sym (ap (is_named c.args.b) c.in-Fiq.is)
