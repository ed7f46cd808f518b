-- That `play` of src/lib.rt keeps its contract.
use mathlib.Core.Path.{refl, ◌∙◌}
use Rattle.beginning.proofs.BeginningLaws.{begin-ready}
use Rattle.beginning.proofs.PlayLaws.{play-begun, play-refused}
use Rattle.player.proofs.play.Goals as goal

pub returns-then-b-ne-CARRIED_OUT : goal.returns-then-b-ne-CARRIED_OUT
returns-then-b-ne-CARRIED_OUT c = c.not_played.ensures ∙ play-refused _ _ _ c.begin-b.ensures c.if-b-ne-CARRIED_OUT.true

pub play_steps-requires : goal.play_steps-requires
play_steps-requires c = begin-ready _ _ c.begin-b.ensures c.if-b-ne-CARRIED_OUT.false

pub returns : goal.returns
returns c = c.play_steps.ensures ∙ play-begun _ _ _ _ _ c.begin-b.ensures c.if-b-ne-CARRIED_OUT.false refl c.tells_privilege-told.ensures
