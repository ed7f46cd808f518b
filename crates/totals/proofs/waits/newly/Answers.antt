-- That `newly` of src/waits.rt keeps its contract.
use borrow.Author.Rules.{rules}
use Rattle.totals.specs.Waits.{newly}
use Rattle.totals.proofs.waits.newly.Goals as goal

pub returns : goal.returns
returns c =
    let a = c.args in
    c.sources_where.ensures (newly a.a a.b) (λ i r l q. search rules)
