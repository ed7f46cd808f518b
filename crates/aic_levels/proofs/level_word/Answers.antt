-- That `level_word` of src/lib.rt keeps its contract.
use mathlib.Core.Path.{ap, ◌∙◌}
use Prim.Native.Nat.{ℕ}
use Rattle.words.specs.Word.{both}
use Rattle.aic_levels.proofs.LevelLaws.{class-waits}
use Rattle.aic_levels.proofs.level_word.Goals as goal

pub returns : goal.returns
returns c = let a = c.args in c.meet.ensures ∙ ap (λ (w : ℕ). both a.waits w) c.class_word.ensures ∙ class-waits a.mode.now a.waits a.p
