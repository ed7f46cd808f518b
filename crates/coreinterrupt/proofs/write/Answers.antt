-- That `write` of src/lib.rt keeps its contract.
use Rattle.coreinterrupt.proofs.SoundLaws.{write-unsound}
use mathlib.Core.Path.{sym, ◌∙◌}
use Rattle.coreinterrupt.proofs.write.Goals as goal

pub write_sound-requires : goal.write_sound-requires
write_sound-requires c = sym c.is_sound.ensures ∙ c.if-is_sound.true

pub returns : goal.returns
returns c = c.refusal_of.ensures ∙ write-unsound _ _ _ (sym c.is_sound.ensures ∙ c.if-is_sound.false)
