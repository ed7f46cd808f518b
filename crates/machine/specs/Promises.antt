-- What is promised of the steps of a machine: they are those of the model of its kind.
use Rattle.std.specs.Prelude.{◌≡◌, true, false, ◌↔◌, ◌≢◌}
use Rattle.steps.specs.declared.Recorded.{Recorded}
use Rattle.aic.specs.Model.{step as aic_step}
use Rattle.coreinterrupt.specs.Model.{step as core_step}
use Rattle.cic_registers.specs.Model.{step as cic_step}
use Rattle.cic_held.specs.declared.Prioritised.{Prioritised}
use Rattle.cic_indexed.specs.Model.{step as indexed_step}
use Rattle.aintc_registers.specs.Model.{step as aintc_step}
use Rattle.kinds.specs.Kinds.{is_kind}
use Rattle.machine.specs.declared.record.Machine.{Machine}
use Rattle.machine.specs.Machine.{sound}
use Rattle.machine.specs.RecordPromises.{Ready}
use Rattle.machine.specs.Steps.{step}

-- the CIC of a machine, and what is held beside it (02, 6/12)
abbrev pub both : Machine → Prioritised
both m = record { cic = m.cic; held = m.held }

pub record Promises : Type 0 where
  -- a step answers what the model does, number, value and record, and leaves the rest of the machine alone (01, House trace)
  pub aic_steps : (m : Machine) (x : Recorded) → m.kind ≡ 0
      → step m x
      ≡ record { refusal = (aic_step m.aic x.step).refusal; value = (aic_step m.aic x.step).value; machine = record { kind = m.kind; aic = (aic_step m.aic x.step).aic; core = m.core; cic = m.cic; aintc = m.aintc; held = m.held } }
  pub core_steps : (m : Machine) (x : Recorded) → m.kind ≡ 1
      → step m x
      ≡ record { refusal = (core_step m.core x.step).refusal; value = (core_step m.core x.step).value; machine = record { kind = m.kind; aic = m.aic; core = (core_step m.core x.step).core; cic = m.cic; aintc = m.aintc; held = m.held } }
  pub cic_steps : (m : Machine) (x : Recorded) → m.kind ≡ 2
      → step m x
      ≡ record { refusal = (cic_step m.cic x.step).refusal; value = (cic_step m.cic x.step).value; machine = record { kind = m.kind; aic = m.aic; core = m.core; cic = (cic_step m.cic x.step).cic; aintc = m.aintc; held = m.held } }
  -- that of an AINTC is made by the privilege that the trace tells (02, 2/12)
  pub aintc_steps : (m : Machine) (x : Recorded) → m.kind ≡ 3
      → step m x
      ≡ record { refusal = (aintc_step m.aintc x.privilege x.step).refusal; value = (aintc_step m.aintc x.privilege x.step).value; machine = record { kind = m.kind; aic = m.aic; core = m.core; cic = m.cic; aintc = (aintc_step m.aintc x.privilege x.step).aintc; held = m.held } }
  -- that of a CIC with prioritised indices changes the CIC and what is held beside it, and nothing else (02, 6/12)
  pub indexed_steps : (m : Machine) (x : Recorded) → m.kind ≡ 4
      → step m x
      ≡ record { refusal = (indexed_step (both m) x.step).refusal; value = (indexed_step (both m) x.step).value; machine = record { kind = m.kind; aic = m.aic; core = m.core; cic = (indexed_step (both m) x.step).prioritised.cic; aintc = m.aintc; held = (indexed_step (both m) x.step).prioritised.held } }
  -- with the choice off it is the step of a CIC, and what is held stays (02, 6/12)
  pub indexed_off : (m : Machine) (x : Recorded) → m.kind ≡ 4 → sound m ≡ true → m.held.choice ≡ 0
      → step m x
      ≡ record { refusal = (cic_step m.cic x.step).refusal; value = (cic_step m.cic x.step).value; machine = record { kind = m.kind; aic = m.aic; core = m.core; cic = (cic_step m.cic x.step).cic; aintc = m.aintc; held = m.held } }
  -- a machine of no kind has no step (01, Numbers, 12)
  pub no_steps : (m : Machine) (x : Recorded) → is_kind m.kind ≡ false → step m x ≡ record { refusal = 12; value = 0; machine = m }
  -- every step keeps a sound machine sound, and the machine's kind (01, Numbers, 12)
  pub step_ready : (m : Machine) (x : Recorded) → Ready m → Ready (step m x).machine
  pub step_kind : (m : Machine) (x : Recorded) → (step m x).machine.kind ≡ m.kind
  -- a refused step answers its number, the value 0 and the same machine (01, Numbers)
  pub refused_same : (m : Machine) (x : Recorded) → (step m x).refusal ≢ 0 → step m x ≡ record { refusal = (step m x).refusal; value = 0; machine = m }
  -- 12 is given exactly when a machine is not sound (01, Numbers, 12)
  pub twelve : (m : Machine) (x : Recorded) → ((step m x).refusal ≡ 12) ↔ (sound m ≡ false)
