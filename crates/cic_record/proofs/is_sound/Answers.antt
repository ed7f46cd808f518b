-- That `is_sound` of src/lib.rt keeps its contract.
use mathlib.Core.Path.{sym, ap, ◌∙◌}
use mathlib.Core.Bool.{Bool, ◌&&◌}
use Rattle.cic_record.specs.Sound.{sound, numbers_sound, words_sound, maps_sound}
use Rattle.words.proofs.TruthLaws.{and_parts}
use Rattle.cic_record.proofs.SoundLaws.{numbers-counts}
use Rattle.cic_record.proofs.is_sound.Goals as goal

pub maps_sound-requires : goal.maps_sound-requires
unfolding numbers_sound
maps_sound-requires c = let n = numbers-counts c.args.c (sym c.numbers_sound.ensures ∙ c.if-numbers_sound.true) in (n.systems.1, n.channels.1)

pub returns-then-numbers_sound : goal.returns-then-numbers_sound
unfolding sound numbers_sound
returns-then-numbers_sound c =
    let r = c.args.c in
    and_parts c.words_sound.ensures c.maps_sound.ensures
    ∙ sym (ap (λ (t : Bool). t && (words_sound r && maps_sound r)) (sym c.numbers_sound.ensures ∙ c.if-numbers_sound.true))

pub returns : goal.returns
unfolding sound numbers_sound
returns c =
    let r = c.args.c in
    sym (ap (λ (t : Bool). t && (words_sound r && maps_sound r)) (sym c.numbers_sound.ensures ∙ c.if-numbers_sound.false))
