-- That `held_word` of src/waits/bounds.rt keeps its contract.
use Prim.Native.Nat.{◌≤◌}
use mathlib.Core.Path.{◌≡◌}
use mathlib.Core.Bool.{true}
use Rattle.words.specs.Word.{word_of}
use Rattle.aic_record.specs.declared.Aic.{Aic}
use Rattle.aic_record.specs.Sound.{sound}
use Rattle.aic_room.specs.Room.{Laid}
use Rattle.aic_bounds.proofs.WordLaws.{held_among}
use Rattle.aic_figures.proofs.waits.bounds.held_word.Given as goal

abbrev pub invariant-loop-d : goal.invariant-loop-d
invariant-loop-d l = (l.d ≤ l.depth) × ((t : Aic) → sound t ≡ true → Laid t l.room → l.w ≡ word_of 32 (held_among t l.d))
