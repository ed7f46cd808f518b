-- That `has` of src/lib.rt keeps its contract.
use mathlib.Core.Path.{sym, refl}
use Rattle.words.specs.Word.{bit}
use Rattle.words.proofs.WordLaws.{bit_past}
use borrow.Author.Rules.{rules}
use Rattle.words.proofs.has.Goals as goal

pub returns-then-k-ge32 : goal.returns-then-k-ge32
returns-then-k-ge32 c = sym (bit_past 32 c.args.w c.args.k (search rules) c.if-k-ge32.true)

pub returns : goal.returns
unfolding bit
returns c = refl
