-- The three numbers that a listing shows of a machine (01, "House trace"; 02, 2/12 and 6/12).
use Rattle.words.specs.Counting.{one}
use Rattle.aic.specs.declared.Signals.{Signals as AicSignals}
use Rattle.aic.specs.Model.{outputs as aic_outputs}
use Rattle.coreinterrupt.specs.declared.Signals.{Signals as CoreSignals}
use Rattle.coreinterrupt.specs.Model.{outputs as core_outputs}
use Rattle.cic_record.specs.declared.Signals.{Signals as CicSignals}
use Rattle.cic_registers.specs.Hosts.{outputs as cic_outputs}
use Rattle.cic_indexed.specs.Model.{outputs as indexed_outputs}
use Rattle.aintc_registers.specs.declared.model.Signals.{Signals as AintcSignals}
use Rattle.aintc_registers.specs.Model.{outputs as aintc_outputs}
use Rattle.kinds.specs.Kinds.{by_kind}
use Rattle.machine.specs.declared.record.Columns.{Columns}
use Rattle.machine.specs.declared.record.Machine.{Machine}
use Rattle.machine.specs.Machine.{indexed}

-- IRQ active, FIQ active, entries open (01, House trace; 02, 3/12)
abbrev pub aic_columns : AicSignals → Columns
aic_columns o = record { first = one o.irq; second = one o.fiq; third = o.entries }

-- IRQ active, FIQ active, 0 (01, House trace)
abbrev pub core_columns : CoreSignals → Columns
core_columns o = record { first = one o.irq; second = one o.fiq; third = 0 }

-- asserted hosts, the lowest of them or 256, 0; with prioritised indices or without (01, House trace; 02, 6/12)
abbrev pub cic_columns : CicSignals → Columns
cic_columns o = record { first = o.hosts; second = o.lowest; third = 0 }

-- IRQ active, FIQ active, the number of the input that is active for IRQ, 0 with none (02, 2/12)
abbrev pub aintc_columns : AintcSignals → Columns
aintc_columns o = record { first = one o.irq; second = one o.fiq; third = o.number }

abbrev pub no_columns : Columns
no_columns = record { first = 0; second = 0; third = 0 }

-- the outputs of the model of its kind (01, House trace)
unfoldable pub shown : Machine → Columns
shown m =
    by_kind m.kind
    (record {
      aic = aic_columns (aic_outputs m.aic);
      core = core_columns (core_outputs m.core);
      cic = cic_columns (cic_outputs m.cic);
      aintc = aintc_columns (aintc_outputs m.aintc);
      indexed = cic_columns (indexed_outputs (indexed m));
      none = no_columns;
    })
