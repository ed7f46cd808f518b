-- That `levels_with_any` of src/layout.rt keeps its contract.
use mathlib.Core.Path.{ap, ◌∙◌}
use mathlib.Core.Bool.{not}
use Prim.Native.Nat.{ℕ, ◌<◌}
use lib.Dec.{eqb}
use Rattle.std.proofs.lemmas.List.{get_or-take, get_or-drop}
use Rattle.words.proofs.WordLaws.{word_of-same}
use Rattle.aic_room.proofs.layout.levels_with_any.Goals as goal

pub returns : goal.returns
returns c =
    c.levels_with_any.ensures
    ∙ word_of-same 8 _ _ (λ (p : ℕ) (l : p < 8). ap (λ (w : ℕ). not (eqb w 0)) (get_or-take 8 _ p 0 l ∙ get_or-drop 24 c.args.room.now p 0))
