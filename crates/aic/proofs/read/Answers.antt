-- That `read` of src/lib.rt keeps its contract.
use Rattle.aic.proofs.CallLaws.{read-unsound}
use mathlib.Core.Path.{sym, ◌∙◌}
use Rattle.aic.proofs.read.Goals as goal

pub read_sound-requires : goal.read_sound-requires
read_sound-requires c = sym c.is_sound.ensures ∙ c.if-is_sound.true

pub returns : goal.returns
returns c = c.refusal_of.ensures ∙ read-unsound _ _ (sym c.is_sound.ensures ∙ c.if-is_sound.false)
