-- That `column` of src/waits.rt keeps its contract.
use mathlib.Core.List.{[]}
use lib.ListN.{get_or}
use borrow.Author.Rules.{rules}
use Rattle.totals.proofs.MadeLaws.{made_at}
use Rattle.aic_figures.proofs.waits.column.Goals as goal

pub returns : goal.returns
returns c =
    let a = c.args in
    (c.from_fn.ensures.items.long, made_at _ _ (λ i. get_or (get_or a.table.now i []) a.j 0) 0 (λ i y q k. search rules) _ 32 c.from_fn.ensures.items)
