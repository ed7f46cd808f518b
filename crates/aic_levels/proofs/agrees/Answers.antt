-- That `agrees` of src/lib.rt keeps its contract.
use Rattle.aic_levels.proofs.AgreeLaws.{agrees-by}
use Rattle.aic_levels.proofs.agrees.Goals as goal

pub returns : goal.returns
returns c =
    let a = c.args in
    agrees-by a.s a.l _ _ _ c.waiting_word.ensures c.words_agree-same.ensures c.levels_with_any.ensures
