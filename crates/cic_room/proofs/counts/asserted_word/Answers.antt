-- That `asserted_word` of src/counts.rt keeps its contract.
use Rattle.cic_room.proofs.AssertLaws.{none-reached, reached-is}
use Rattle.cic_room.proofs.counts.asserted_word.Goals as goal

pub returns-then-room-ne1 : goal.returns-then-room-ne1
returns-then-room-ne1 c = λ f d n b e u x g h t j l. none-reached h g t c.if-room-ne1.true c.args.k j

pub returns : goal.returns
returns c = λ f d n b e u x g h t. reached-is h g t c.args.k _ c.requires c.if-room-ne1.false c.meet.ensures
