-- That `put_handler` of src/lib.rt keeps its contract.
use Prim.Native.Nat.{ℕ}
use mathlib.Core.List.{List}
use mathlib.Core.Path.{ap₂}
use Rattle.aic_record.specs.Record.{with_handlers}
use Rattle.aic_record.proofs.TableLaws.{past-set}
use borrow.Author.Rules.{rules}
use Rattle.aic_record.proofs.put_handler.Goals as goal

pub returns-then-i-ge8 : goal.returns-then-i-ge8
returns-then-i-ge8 c = let s = c.args.s in
    ap₂ (λ (ks ls : List ℕ). with_handlers s ks ls c.args.depth) (past-set s.source 8 c.args.i _ (search rules) c.if-i-ge8.true) (past-set s.level 8 c.args.i _ (search rules) c.if-i-ge8.true)
