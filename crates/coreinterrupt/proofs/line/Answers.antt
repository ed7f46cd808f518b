-- That `line` of src/lib.rt keeps its contract.
use Rattle.coreinterrupt.proofs.SoundLaws.{line-unsound}
use mathlib.Core.Path.{sym, ◌∙◌}
use Rattle.coreinterrupt.proofs.line.Goals as goal

pub line_sound-requires : goal.line_sound-requires
line_sound-requires c = sym c.is_sound.ensures ∙ c.if-is_sound.true

pub returns : goal.returns
returns c = c.refusal_of.ensures ∙ line-unsound _ _ _ (sym c.is_sound.ensures ∙ c.if-is_sound.false)
