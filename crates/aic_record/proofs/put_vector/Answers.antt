-- That `put_vector` of src/lib.rt keeps its contract.
use mathlib.Core.Path.{ap}
use Rattle.aic_record.specs.Record.{with_vector}
use Rattle.aic_record.proofs.TableLaws.{past-set}
use borrow.Author.Rules.{rules}
use Rattle.aic_record.proofs.put_vector.Goals as goal

pub returns-then-k-ge32 : goal.returns-then-k-ge32
returns-then-k-ge32 c = ap (with_vector c.args.s) (past-set c.args.s.vector 32 c.args.k _ (search rules) c.if-k-ge32.true)
