-- That `too_much` of src/sheets.rt keeps its contract.
use borrow.Author.Tests.{tests}
use borrow.Author.Rules.{rules}
use Rattle.totals.specs.Sheet.{too_much}
use Rattle.totals.proofs.sheets.too_much.Goals as goal

pub returns : goal.returns
unfolding too_much
returns c = search (rules, tests)
