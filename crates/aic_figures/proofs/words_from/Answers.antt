-- That `words_from` of src/lib.rt keeps its contract.
use Prim.Native.Nat.{◌+◌}
use lib.ListN.{get_or}
use borrow.Author.Rules.{rules}
use Rattle.totals.proofs.MadeLaws.{made_at}
use Rattle.aic_figures.proofs.words_from.Goals as goal

pub returns : goal.returns
returns c =
    let a = c.args in
    (c.from_fn.ensures.items.long, made_at _ _ (λ j. get_or a.book.now (a.at + j) 0) 0 (λ i y q k. search rules) _ 32 c.from_fn.ensures.items)
