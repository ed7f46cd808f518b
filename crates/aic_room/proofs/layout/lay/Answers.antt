-- That `lay` of src/layout.rt keeps its contract.
use Rattle.aic_room.proofs.LayLaws.{words-laid}
use Rattle.aic_room.proofs.layout.lay.Goals as goal

pub returns : goal.returns
returns c =
    let a = c.args.a in
    λ s. c.renew.ensures a (words-laid a s _ _ _ (c.tables_of-room.ensures s) c.lay_words.ensures (c.lay_kept.ensures s))
