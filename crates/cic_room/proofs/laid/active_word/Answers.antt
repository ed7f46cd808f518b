-- That `active_word` of src/laid.rt keeps its contract.
use mathlib.Core.Path.{ap₂, ◌∙◌}
use Prim.Native.Nat.{ℕ}
use Rattle.words.specs.Word.{both}
use Rattle.cic_room.proofs.PutLaws.{status-is, enable-is}
use Rattle.cic_room.proofs.laid.active_word.Goals as goal

pub returns : goal.returns
returns c = λ f d h. c.meet.ensures ∙ ap₂ (λ (y z : ℕ). both y z) (status-is h c.args.k c.requires) (enable-is h c.args.k c.requires)
