-- That `more` of src/sheets.rt keeps its contract.
use borrow.Author.Tests.{tests}
use borrow.Author.Rules.{rules}
use Rattle.words.specs.Choice.{pick}
use Rattle.totals.specs.Sheet.{more}
use Rattle.totals.proofs.sheets.more.Goals as goal

pub returns : goal.returns
unfolding more pick
returns c = search (rules, tests)
