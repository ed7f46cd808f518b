-- That `digit_of` of src/lib.rt keeps its contract.
use borrow.Author.Rules.{rules}
use Rattle.register_names.proofs.TableLaws.{digit_low, digit_ten, digit-letter}
use Rattle.register_names.proofs.digit_of.Goals as goal

pub returns-then-b-lt48 : goal.returns-then-b-lt48
returns-then-b-lt48 c = (digit_low _ c.if-b-lt48.true, search rules)

pub returns-then-b-lt58 : goal.returns-then-b-lt58
returns-then-b-lt58 c = (digit_ten _ (search rules), search rules)

pub returns : goal.returns
returns c = (digit-letter _ (search rules), search rules)
