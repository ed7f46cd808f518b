-- The cheats that 01 names (When a contract is strong enough), said of any function that takes a record and a step.
use Rattle.std.specs.Prelude.{ℕ, ◌≡◌, ◌≢◌}
use Rattle.steps.specs.declared.Step.{Step}
use Rattle.steps.specs.declared.Step.TheVariants.{Read}
use Rattle.steps.specs.Refusals.{carried_out}
use Rattle.aic_record.specs.declared.Aic.{Aic}
use Rattle.aic.specs.Model as Aic
use Rattle.coreinterrupt.specs.declared.Core.{Core}
use Rattle.coreinterrupt.specs.Model as CoreInterrupt
use Rattle.cic_record.specs.declared.Cic.{Cic}
use Rattle.cic_registers.specs.Model as Cic
use Rattle.aintc_record.specs.declared.Aintc.{Aintc}
use Rattle.aintc_registers.specs.Model as Aintc
use Rattle.cic_held.specs.declared.Prioritised.{Prioritised}
use Rattle.cic_indexed.specs.Model as Indexed

-- what a step answers, whatever the controller
pub record Outcome (R : Type 0) : Type 0 where
  pub refusal : ℕ
  pub value : ℕ
  pub left : R

-- a model: what each step answers of each record
abbrev pub Model : Type 0 → Type 0
Model R = R → Step → Outcome R

-- the five models of the definitions
unfoldable pub aic_model : Model Aic
aic_model s x = record { refusal = (Aic.step s x).refusal; value = (Aic.step s x).value; left = (Aic.step s x).aic }

unfoldable pub core_model : Model Core
core_model c x =
    record { refusal = (CoreInterrupt.step c x).refusal; value = (CoreInterrupt.step c x).value; left = (CoreInterrupt.step c x).core }

unfoldable pub cic_model : Model Cic
cic_model c x = record { refusal = (Cic.step c x).refusal; value = (Cic.step c x).value; left = (Cic.step c x).cic }

-- the AINTC's where every access has privilege p (02, 2/12)
unfoldable pub aintc_model : ℕ → Model Aintc
aintc_model p s x = record { refusal = (Aintc.step s p x).refusal; value = (Aintc.step s p x).value; left = (Aintc.step s p x).aintc }

-- the CIC's with prioritised indices (02, 6/12)
unfoldable pub indexed_model : Model Prioritised
indexed_model p x =
    record { refusal = (Indexed.step p x).refusal; value = (Indexed.step p x).value; left = (Indexed.step p x).prioritised }

-- it keeps a contract that says: every answer is the definition's
abbrev pub Keeps : {R : Type 0} → Model R → Model R → Type 0
Keeps {R} m definition = (r : R) (x : Step) → m r x ≡ definition r x

-- it refuses everything
abbrev pub RefusesAll : {R : Type 0} → Model R → Type 0
RefusesAll {R} m = (r : R) (x : Step) → (m r x).refusal ≢ carried_out

-- it answers one constant to every read
abbrev pub AnswersOne : {R : Type 0} → Model R → Type 0
AnswersOne {R} m = (v : ℕ) × ((r : R) (o : ℕ) → (m r (Read o)).value ≡ v)

-- it never moves its state
abbrev pub NeverMoves : {R : Type 0} → Model R → Type 0
NeverMoves {R} m = (r : R) (x : Step) → (m r x).left ≡ r

-- it carries out the first step from r, and the second one leaves the record as the first had left it
abbrev pub StopsAfterOne : {R : Type 0} → Model R → R → Type 0
StopsAfterOne m r = (x y : Step) → (m (m r x).left y).left ≡ (m r x).left

-- it is none of these
pub record NoCheat {R : Type 0} (m : Model R) (begun : R) : Type 0 where
  pub carries_out : RefusesAll m → ⊥
  pub answers_more : AnswersOne m → ⊥
  pub moves : NeverMoves m → ⊥
  pub goes_on : StopsAfterOne m begun → ⊥
