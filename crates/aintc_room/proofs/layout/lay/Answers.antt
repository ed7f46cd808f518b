-- That `lay` of src/layout.rt keeps its contract.
use Rattle.aintc_room.proofs.LayLaws.{words-laid}
use Rattle.aintc_room.proofs.layout.lay.Goals as goal

pub returns : goal.returns
returns c =
    let a = c.args.a in
    words-laid a c.tables_of-room.ensures.shaped _ _ _ _ _ _ _ _ _ c.tables_of-room.ensures c.wide-threshold.ensures c.wide-revision.ensures c.one_if.ensures
    c.one_if-2.ensures c.one_if-3.ensures c.one_if-4.ensures c.lay_chosen.ensures c.lay_chosen-2.ensures
