-- That `is_sound` of src/lib.rt keeps its contract.
use Rattle.aic_record.proofs.PassLaws.{sound-by, seen_by}
use Rattle.aic_record.proofs.is_sound.Goals as goal

pub returns : goal.returns
returns c =
    let s = c.args.s in
    sound-by s _ _ _ _ c.slots_sound.ensures c.modes_sound.ensures c.has.ensures
    (seen_by s _ _ _ c.has-2.ensures c.last_level.ensures c.seen_fits.ensures)
