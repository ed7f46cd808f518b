-- That `larger_word` of src/waits.rt keeps its contract.
use borrow.Author.Rules.{rules}
use Rattle.totals.specs.Waits.{larger}
use Rattle.totals.proofs.waits.larger_word.Goals as goal

pub returns : goal.returns
returns c =
    let a = c.args in
    c.sources_where.ensures (larger a.a a.b) (λ i r l q. search rules)
