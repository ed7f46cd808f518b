-- That `Halves::is_some` of src/search.rt keeps its contract.
use Rattle.aintc_room.proofs.SearchLaws.{any-halves}
use borrow.Author.Rules.{rules}
use Rattle.aintc_room.proofs.search.Halves.is_some.Goals as goal

pub returns : goal.returns
returns c = any-halves c.args.self.low c.args.self.high (search rules) (search rules)
