-- That `lay` of src/transfer.rt keeps its contract.
use mathlib.Core.Path.{refl}
use mathlib.Core.Bool.{true}
use Rattle.rooms.specs.Parts.{made}
use Rattle.cic_room.specs.Room.{plain}
use Rattle.cic_indexed.proofs.SoundLaws.{sound-cic}
use Rattle.indexed_room.specs.Room.{with_words}
use Rattle.indexed_room.specs.Words.{words_of}
use Rattle.indexed_room.proofs.TransferLaws.{laid-all}
use borrow.Author.Rules.{rules}
use Rattle.indexed_room.proofs.transfer.lay.Goals as goal

pub returns : goal.returns
returns c =
    let p = c.args.p in
    λ ok.
    laid-all p _ c.from-global.ensures
    (c.lay_held.ensures (with_words (plain true) (made 256 (words_of p.cic.channel))) p.cic (search rules)
    (c.lay_words.ensures (plain true) p.cic refl (c.lay-room.ensures (sound-cic p ok))))
