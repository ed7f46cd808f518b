-- What a step does to a machine (01, "House trace"; 02, 2/12 and 6/12).
use Rattle.std.specs.Prelude.{ℕ}
use Rattle.steps.specs.declared.Recorded.{Recorded}
use Rattle.steps.specs.Refusals.{unsound}
use Rattle.aic_registers.specs.declared.Answer.{Answer as AicAnswer}
use Rattle.aic.specs.Model.{step as aic_step}
use Rattle.coreinterrupt.specs.declared.Answer.{Answer as CoreAnswer}
use Rattle.coreinterrupt.specs.Model.{step as core_step}
use Rattle.cic_record.specs.declared.Answer.{Answer as CicAnswer}
use Rattle.cic_registers.specs.Model.{step as cic_step}
use Rattle.cic_held.specs.declared.Answer.{Answer as IndexedAnswer}
use Rattle.cic_indexed.specs.Model.{step as indexed_step}
use Rattle.aintc_registers.specs.declared.Answer.{Answer as AintcAnswer}
use Rattle.aintc_registers.specs.Model.{step as aintc_step}
use Rattle.kinds.specs.Kinds.{by_kind}
use Rattle.machine.specs.declared.record.Machine.{Machine}
use Rattle.machine.specs.Machine.{indexed}
use Rattle.machine.specs.declared.Answer.{Answer}

-- what the model answers, its record put back into the machine
abbrev pub after_aic : Machine → AicAnswer → Answer
after_aic m a =
    record { refusal = a.refusal; value = a.value; machine = record { kind = m.kind; aic = a.aic; core = m.core; cic = m.cic; aintc = m.aintc; held = m.held } }

abbrev pub after_core : Machine → CoreAnswer → Answer
after_core m a =
    record { refusal = a.refusal; value = a.value; machine = record { kind = m.kind; aic = m.aic; core = a.core; cic = m.cic; aintc = m.aintc; held = m.held } }

abbrev pub after_cic : Machine → CicAnswer → Answer
after_cic m a =
    record { refusal = a.refusal; value = a.value; machine = record { kind = m.kind; aic = m.aic; core = m.core; cic = a.cic; aintc = m.aintc; held = m.held } }

abbrev pub after_aintc : Machine → AintcAnswer → Answer
after_aintc m a =
    record { refusal = a.refusal; value = a.value; machine = record { kind = m.kind; aic = m.aic; core = m.core; cic = m.cic; aintc = a.aintc; held = m.held } }

-- of a CIC with prioritised indices both parts (02, 6/12)
abbrev pub after_indexed : Machine → IndexedAnswer → Answer
after_indexed m a =
    record { refusal = a.refusal; value = a.value; machine = record { kind = m.kind; aic = m.aic; core = m.core; cic = a.prioritised.cic; aintc = m.aintc; held = a.prioritised.held } }

-- a step that is refused: its number, the value 0 and the same machine (01, Numbers)
abbrev pub refused : Machine → ℕ → Answer
refused m n = record { refusal = n; value = 0; machine = m }

-- the step of the model of its kind; only an AINTC asks by which privilege it is made (01, House trace; 02, 2/12 and 6/12)
unfoldable pub step : Machine → Recorded → Answer
step m x =
    by_kind m.kind
    (record {
      aic = after_aic m (aic_step m.aic x.step);
      core = after_core m (core_step m.core x.step);
      cic = after_cic m (cic_step m.cic x.step);
      aintc = after_aintc m (aintc_step m.aintc x.privilege x.step);
      indexed = after_indexed m (indexed_step (indexed m) x.step);
      none = refused m unsound;
    })
