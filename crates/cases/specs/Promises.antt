-- What is promised of the worked cases, and of every model that keeps the contracts (01, Both sides of each rule; When a contract is strong enough).
use Rattle.std.specs.Prelude.{ℕ, ◌≡◌, true, ◌⊎◌, length}
use Rattle.aic_record.specs.declared.Aic.{Aic}
use Rattle.aic.specs.Model as Aic
use Rattle.coreinterrupt.specs.declared.Core.{Core}
use Rattle.coreinterrupt.specs.Model as CoreInterrupt
use Rattle.cic_record.specs.declared.Cic.{Cic}
use Rattle.cic_record.specs.Start.{start as cic_start}
use Rattle.aintc_record.specs.declared.Aintc.{Aintc}
use Rattle.aintc_registers.specs.Model as Aintc
use Rattle.cic_held.specs.declared.Prioritised.{Prioritised}
use Rattle.cic_held.specs.Held.{start as indexed_start}
use Rattle.cases.specs.Cases.{starred, holds}
use Rattle.cases.specs.Cheats.{Model, Keeps, NoCheat, aic_model, core_model, cic_model, aintc_model, indexed_model}

pub record Promises : Type 0 where
  -- all the marked cases hold, across the three models of 01, and there are fourteen of them (01, Both sides of each rule)
  pub cases_hold : holds starred ≡ true
  pub fourteen : length starred ≡ 14
  -- a model whose every answer is the definition's refuses not everything, answers more than one constant, moves its state, and goes on
  -- after its first step from a start (01, When a contract is strong enough)
  pub aic_honest : (m : Model Aic) → Keeps m aic_model → NoCheat m (Aic.start 0 0).aic
  pub core_honest : (m : Model Core) → Keeps m core_model → NoCheat m (CoreInterrupt.start 8 32 1 1).core
  pub cic_honest : (m : Model Cic) → Keeps m cic_model → NoCheat m (cic_start 33 2 1 0).cic
  -- so of the AINTC, where every access is privileged (1) and where none is (0), and of the CIC with prioritised indices, from a start with the
  -- choice on (02, 2/12 and 6/12)
  pub aintc_honest : (p : ℕ) → (p ≡ 0) ⊎ (p ≡ 1) → (m : Model Aintc) → Keeps m (aintc_model p) → NoCheat m (Aintc.start).aintc
  pub indexed_honest : (m : Model Prioritised) → Keeps m indexed_model → NoCheat m (indexed_start 33 2 1 0 1).prioritised
