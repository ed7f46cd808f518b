-- That `word_at` of src/order.rt keeps its contract.
use borrow.Author.Rules.{rules}
use lib.ListN.{get_or-eq_default}
use mathlib.Core.Path.{sym}
use Rattle.sheet.proofs.order.word_at.Goals as goal

pub returns-else-at-lt32 : goal.returns-else-at-lt32
returns-else-at-lt32 c = sym (get_or-eq_default c.args.a 0 (search rules))
