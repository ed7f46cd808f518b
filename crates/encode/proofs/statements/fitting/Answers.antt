-- That `fitting` of src/statements.rt keeps its contract.
use mathlib.Core.Path.{ap, ◌∙◌}
use Rattle.std.specs.Prelude.{Some}
use borrow.Author.Tests.{lt-ltb, le-ltb}
use Rattle.words.proofs.ChoiceLaws.{pick_true, pick-false}
use Rattle.encode.specs.Passes.{short_of}
use Rattle.encode.proofs.statements.fitting.Goals as goal

pub returns-in_err-value : goal.returns-in_err-value
unfolding short_of
returns-in_err-value c = rw c.in_err-value.was c.from_residual.ensures

pub returns-then-value-lt-OVER : goal.returns-then-value-lt-OVER
unfolding short_of
returns-then-value-lt-OVER c = rw c.in_ok-value.was (ap Some c.entered_as.ensures ∙ pick_true _ (lt-ltb _ _ c.if-value-lt-OVER.true))

pub returns : goal.returns
unfolding short_of
returns c = rw c.in_ok-value.was (pick-false _ (le-ltb _ _ c.if-value-lt-OVER.false))
