-- That `put_words` of src/waits.rt keeps its contract.
use mathlib.Core.Path.{refl}
use Rattle.aic_figures.proofs.ColumnLaws.{words-put}
use Rattle.aic_figures.proofs.waits.put_words.Goals as goal

pub returns : goal.returns
returns c = λ h. words-put _ _ _ _ h refl refl
