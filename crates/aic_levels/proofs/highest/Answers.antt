-- That `highest` of src/lib.rt keeps its contract: its table lists the highest levels.
use Rattle.aic_levels.proofs.TableLaws.{listed}
use borrow.Author.Rules.{rules}
use Rattle.aic_levels.proofs.highest.Goals as goal

pub returns : goal.returns
returns c = listed c.args.b (search rules)
