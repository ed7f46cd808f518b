-- That `Halves::without` of src/search.rt keeps its contract.
use Rattle.aintc_room.proofs.SearchLaws.{halves-dropped}
use borrow.Author.Rules.{rules}
use Rattle.aintc_room.proofs.search.Halves.without.Goals as goal

pub returns : goal.returns
returns c = λ k l. halves-dropped c.args.self.low c.args.self.high c.args.others.low c.args.others.high (search rules) (search rules) (search rules) (search rules) k l
