-- That `words_sound` of src/lib.rt keeps its contract.
use Rattle.cic_record.specs.Sound.{words_sound}
use Rattle.words.proofs.TruthLaws.{and_parts}
use Rattle.cic_record.proofs.SoundLaws.{whole}
use borrow.Author.Rules.{rules}
use Rattle.cic_record.proofs.words_sound.Goals as goal

pub returns : goal.returns
unfolding words_sound
returns c =
    let r = c.args.c in
    and_parts (whole 32 r.systems r.lines (search rules) c.words_clean-lines.ensures)
    (and_parts (whole 32 r.systems r.status (search rules) c.words_clean-status.ensures)
    (and_parts (whole 32 r.systems r.enable (search rules) c.words_clean-enable.ensures) (whole 8 r.hosts r.allow (search rules) c.words_clean.ensures)))
