-- That `with_quotes` of src/names.rt keeps its contract.
use borrow.Author.Tests.{eq-eqb, ne_eqb}
use Rattle.words.proofs.ChoiceLaws.{pick_true, pick-false}
use Rattle.tables.specs.Names.{quoted}
use Rattle.tables.proofs.names.with_quotes.Goals as goal

pub returns-then-n-eq0 : goal.returns-then-n-eq0
unfolding quoted
returns-then-n-eq0 c = pick_true _ (eq-eqb _ _ c.if-n-eq0.true)

pub returns : goal.returns
unfolding quoted
returns c = pick-false _ (ne_eqb _ _ c.if-n-eq0.false)
