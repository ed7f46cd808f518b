-- That `taller` of src/lib.rt keeps its contract.
use mathlib.Core.Path.{◌∙◌}
use Rattle.words.proofs.ChoiceLaws.{by-true, by-false}
use Rattle.stack.specs.Bytes.{taller}
use Rattle.stack.proofs.taller.Goals as goal

pub returns-then-is_of : goal.returns-then-is_of
unfolding taller
returns-then-is_of c = c.max.ensures ∙ by-true _ c.is_of.ensures c.if-is_of.true

pub returns : goal.returns
unfolding taller
returns c = by-false _ c.is_of.ensures c.if-is_of.false
