-- The promises of the worked cases, kept.
use mathlib.Core.Path.{refl}
use Rattle.cases.specs.Cases.{starred}
use Rattle.cases.specs.Cheats.{aic_model, core_model, cic_model, aintc_model, indexed_model}
use Rattle.cases.specs.Promises.{Promises}
use Rattle.cases.proofs.CaseLaws.{cases_hold}
use Rattle.cases.proofs.CheatLaws.{no_cheat, aic_moves, core_moves, cic_moves, aintc_moves, indexed_moves}

pub kept : Promises
unfolding starred
kept =
    record {
      cases_hold = cases_hold;
      fourteen = refl;
      aic_honest = λ m. no_cheat aic_model m _ _ _ _ aic_moves;
      core_honest = λ m. no_cheat core_model m _ _ _ _ core_moves;
      cic_honest = λ m. no_cheat cic_model m _ _ _ _ cic_moves;
      aintc_honest = λ p known m. no_cheat (aintc_model p) m _ _ _ _ (aintc_moves p known);
      indexed_honest = λ m. no_cheat indexed_model m _ _ _ _ indexed_moves;
    }
