-- That `map_sound` of src/lib.rt keeps its contract.
use mathlib.Core.Path.{◌∙◌}
use Rattle.words.proofs.TruthLaws.{and_parts}
use Rattle.cic_record.proofs.SoundLaws.{map-split}
use Rattle.cic_record.proofs.map_sound.Goals as goal

pub returns : goal.returns
returns c =
    let a = c.args in
    and_parts c.bytes_under.ensures c.bytes_under-2.ensures ∙ map-split a.m.now a.n a.limit c.requires
