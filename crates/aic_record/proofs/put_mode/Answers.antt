-- That `put_mode` of src/lib.rt keeps its contract.
use mathlib.Core.Path.{ap}
use Rattle.aic_record.specs.Record.{with_mode}
use Rattle.aic_record.proofs.TableLaws.{past-set}
use borrow.Author.Rules.{rules}
use Rattle.aic_record.proofs.put_mode.Goals as goal

pub returns-then-k-ge32 : goal.returns-then-k-ge32
returns-then-k-ge32 c = ap (with_mode c.args.s) (past-set c.args.s.mode 32 c.args.k _ (search rules) c.if-k-ge32.true)
