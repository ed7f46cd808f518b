-- That `has_any` of src/channels.rt keeps its contract.
use Rattle.words.proofs.WordLaws.{nonzero_any}
use Rattle.indexed_room.proofs.channels.has_any.Goals as goal

pub returns : goal.returns
returns c = nonzero_any 32 _ c.ranges.w.fits
