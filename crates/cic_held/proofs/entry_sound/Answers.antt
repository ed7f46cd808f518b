-- That `entry_sound` of src/lib.rt keeps its contract.
use Rattle.words.proofs.ChoiceLaws.{pick_true, pick-false}
use Rattle.cic_held.specs.Held.{entry_sound}
use Rattle.cic_held.proofs.entry_sound.Goals as goal

pub returns-then-may : goal.returns-then-may
unfolding entry_sound
returns-then-may c = pick_true _ c.if-may.true

pub returns : goal.returns
unfolding entry_sound
returns c = pick-false _ c.if-may.false
