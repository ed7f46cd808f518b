-- That `word` of src/laid.rt keeps its contract.
use mathlib.Core.Path.{ap, ◌∙◌}
use Prim.Native.Nat.{ℕ, ◌+◌}
use lib.ListN.{get_or}
use Rattle.cic_room.proofs.BitsLaws.{word_is}
use Rattle.cic_room.proofs.laid.word.Goals as goal

pub returns : goal.returns
returns c = let a = c.args in λ f d h. ap (λ (p : ℕ). get_or a.room.now (p + a.k) 0) c.place.ensures.0 ∙ word_is a.b h a.k c.requires
