-- That `tables_of` of src/layout.rt keeps its contract.
use Rattle.aintc_record.specs.Promises.{Shaped}
use Rattle.aintc_room.proofs.LayLaws.{tables-laid}
use borrow.Author.Rules.{rules}
use Rattle.aintc_room.proofs.layout.tables_of.Goals as goal

pub returns : goal.returns
returns c =
    let g = c.well_formed.0.1.1 in
    let shaped : Shaped c.args.a = (search (rules, g.0), search (rules, g.1.0), search (rules, g.1.1.0), search (rules, g.1.1.1.0)) in
    tables-laid c.args.a shaped _ _ _ _ _ _ c.lay_four.ensures c.lay_four-2.ensures c.lay_four-3.ensures c.lay_fiqs.ensures c.lay_bits.ensures
    c.lay_routes.ensures.0 c.lay_routes.ensures.1
