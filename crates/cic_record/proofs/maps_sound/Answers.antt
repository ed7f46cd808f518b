-- That `maps_sound` of src/lib.rt keeps its contract.
use Rattle.cic_record.specs.Sound.{maps_sound}
use Rattle.words.proofs.TruthLaws.{and_parts}
use Rattle.cic_record.proofs.SoundLaws.{whole-map}
use borrow.Author.Rules.{rules}
use Rattle.cic_record.proofs.maps_sound.Goals as goal

pub returns : goal.returns
unfolding maps_sound
returns c =
    let r = c.args.c in
    and_parts (whole-map 1024 r.systems r.channels r.channel (search rules) c.map_sound-channel.ensures) (whole-map 256 r.channels r.hosts r.host (search rules) c.map_sound.ensures)
