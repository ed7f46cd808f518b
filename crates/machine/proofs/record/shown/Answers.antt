-- That `shown` of src/record.rt keeps its contract.
use mathlib.Core.Path.{sym, ◌∙◌}
use Rattle.machine.proofs.ShownLaws.{unsound-shown}
use Rattle.machine.proofs.record.shown.Goals as goal

pub shown_sound-requires : goal.shown_sound-requires
shown_sound-requires c = sym c.is_sound.ensures ∙ c.if-is_sound.true

pub returns-then-is_sound : goal.returns-then-is_sound
returns-then-is_sound c = c.shown_sound.ensures

pub returns : goal.returns
returns c = unsound-shown _ (sym c.is_sound.ensures ∙ c.if-is_sound.false)
