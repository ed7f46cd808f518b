-- One controller of any kind, before and after its start, and when it is sound (01, "House trace"; 02, 2/12 and 6/12).
use Rattle.std.specs.Prelude.{ℕ, Bool, false}
use Rattle.aic_record.specs.declared.Aic.{Aic}
use Rattle.aic_record.specs.Record.{reset}
use Rattle.aic_record.specs.Sound.{sound as aic_sound}
use Rattle.aic.specs.Model.{start as aic_start}
use Rattle.coreinterrupt.specs.Side.{idle}
use Rattle.coreinterrupt.specs.declared.Core.{Core}
use Rattle.coreinterrupt.specs.Model.{core_of, start as core_start, sound as core_sound}
use Rattle.cic_record.specs.declared.Cic.{Cic}
use Rattle.cic_record.specs.Sound.{sound as cic_sound}
use Rattle.cic_record.specs.Start.{fresh, start as cic_start}
use Rattle.cic_held.specs.declared.Prioritised.{Prioritised}
use Rattle.cic_held.specs.Held.{prioritised, nothing_held, start as indexed_start, sound as indexed_sound}
use Rattle.aintc_record.specs.declared.Aintc.{Aintc}
use Rattle.aintc_record.specs.Record.{blank as aintc_blank}
use Rattle.aintc_registers.specs.Settle.{sound as aintc_sound}
use Rattle.aintc_registers.specs.Model.{start as aintc_start}
use Rattle.kinds.specs.declared.Configuration.{Configuration}
use Rattle.kinds.specs.Configuration.{number_in}
use Rattle.kinds.specs.Kinds.{aic_kind, core_kind, cic_kind, aintc_kind, indexed_kind, by_kind}
use Rattle.machine.specs.declared.record.Machine.{Machine}

-- all numbers are 0, which is not what a reset leaves of an AINTC (01, House trace)
abbrev pub blank : Machine
blank = record { kind = 0; aic = reset 0 0; core = core_of (idle 0 0) (idle 0 0); cic = fresh 0 0 0 0; aintc = aintc_blank; held = nothing_held 0 0 }

-- a machine of each kind, with its record
abbrev pub of_aic : Aic → Machine
of_aic a = record { kind = aic_kind; aic = a; core = blank.core; cic = blank.cic; aintc = blank.aintc; held = blank.held }

abbrev pub of_core : Core → Machine
of_core c = record { kind = core_kind; aic = blank.aic; core = c; cic = blank.cic; aintc = blank.aintc; held = blank.held }

abbrev pub of_cic : Cic → Machine
of_cic c = record { kind = cic_kind; aic = blank.aic; core = blank.core; cic = c; aintc = blank.aintc; held = blank.held }

abbrev pub of_aintc : Aintc → Machine
of_aintc a = record { kind = aintc_kind; aic = blank.aic; core = blank.core; cic = blank.cic; aintc = a; held = blank.held }

-- a CIC with prioritised indices in its two parts: the CIC, and what is held beside it (02, 6/12)
abbrev pub of_indexed : Prioritised → Machine
of_indexed p = record { kind = indexed_kind; aic = blank.aic; core = blank.core; cic = p.cic; aintc = blank.aintc; held = p.held }

-- the two parts together
abbrev pub indexed : Machine → Prioritised
indexed m = prioritised m.cic m.held

-- the model's own start, with the numbers in their order; an AINTC has none (01, House trace; 02, 2/12 and 6/12)
unfoldable pub start : ℕ → Configuration → Machine
start kind c =
    by_kind kind
    (record {
      aic = of_aic (aic_start (number_in c 0) (number_in c 1)).aic;
      core = of_core (core_start (number_in c 0) (number_in c 1) (number_in c 2) (number_in c 3)).core;
      cic = of_cic (cic_start (number_in c 0) (number_in c 1) (number_in c 2) (number_in c 3)).cic;
      aintc = of_aintc aintc_start.aintc;
      indexed = of_indexed (indexed_start (number_in c 0) (number_in c 1) (number_in c 2) (number_in c 3) (number_in c 4)).prioritised;
      none = blank;
    })

-- the record of its kind keeps the rules of its model (01, Numbers, 12)
unfoldable pub sound : Machine → Bool
sound m =
    by_kind m.kind
    (record { aic = aic_sound m.aic; core = core_sound m.core; cic = cic_sound m.cic; aintc = aintc_sound m.aintc; indexed = indexed_sound (indexed m); none = false })
