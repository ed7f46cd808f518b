-- The register maps of the four makers, row by row in their order: offsets, names, and where each register is described (003, table 27-2; 004, table 3;
-- 001, table 2-1; 000, table 4-3). A section is told with the number of its document.
use Rattle.std.specs.Prelude.{ℕ, Bool, List, [], ◌∷◌}
use Rattle.text.specs.Phrases.{bytes}
use Rattle.register_names.specs.Rows.{Row, alone, group, single, several, by, there_of, at_most}

-- its commands, and what stands behind them
abbrev pub aic_commands : List Row
aic_commands =
    single 0x120 "IECR" "003, 27.8.11"
    ∷ single 0x124 "IDCR" "003, 27.8.12"
    ∷ single 0x128 "ICCR" "003, 27.8.13"
    ∷ single 0x12C "ISCR" "003, 27.8.14"
    ∷ single 0x130 "EOICR" "003, 27.8.15"
    ∷ single 0x134 "SPU" "003, 27.8.16"
    ∷ single 0x138 "DCR" "003, 27.8.17"
    ∷ single 0x140 "FFER" "003, 27.8.18"
    ∷ single 0x144 "FFDR" "003, 27.8.19"
    ∷ single 0x148 "FFSR" "003, 27.8.20"
    ∷ []

-- AIC (003, table 27-2): modes, vectors and status; a write of IVR is described apart from its register
abbrev pub aic_rows : Bool → List Row
aic_rows written =
    several 0x000 32 4 "SMR" "003, 27.8.3"
    ∷ several 0x080 32 4 "SVR" "003, 27.8.4"
    ∷ alone 0x100 (bytes "IVR") (by written "003, 27.8.5" "003, 27.7.5")
    ∷ single 0x104 "FVR" "003, 27.8.6"
    ∷ single 0x108 "ISR" "003, 27.8.7"
    ∷ single 0x10C "IPR" "003, 27.8.8"
    ∷ single 0x110 "IMR" "003, 27.8.9"
    ∷ single 0x114 "CISR" "003, 27.8.10"
    ∷ aic_commands

-- the IRQ side
abbrev pub core_irq_rows : List Row
core_irq_rows =
    single 0x018 "IRQSoftInt" "004, page 5"
    ∷ single 0x01C "IRQSoftIntClear" "004, page 5"
    ∷ single 0x020 "IRQEnable" "004, page 6"
    ∷ single 0x024 "IRQEnableClear" "004, page 6"
    ∷ single 0x028 "IRQRawStatus" "004, page 6"
    ∷ single 0x02C "IRQStatus" "004, page 6"
    ∷ []

-- CoreInterrupt (004, table 3): the FIQ side
abbrev pub core_rows : List Row
core_rows =
    single 0x000 "FIQSoftInt" "004, page 5"
    ∷ single 0x004 "FIQSoftIntClear" "004, page 5"
    ∷ single 0x008 "FIQEnable" "004, page 5"
    ∷ single 0x00C "FIQEnableClear" "004, page 5"
    ∷ single 0x010 "FIQRawStatus" "004, page 5"
    ∷ single 0x014 "FIQStatus" "004, page 5"
    ∷ core_irq_rows

-- those that repeat, as far as they have one of the configured systems, channels or hosts; that the host map is written is said in 01
abbrev pub cic_groups : Bool → ℕ → ℕ → ℕ → List Row
cic_groups written systems channels hosts =
    several 0x200 (there_of 32 32 systems) 4 "RAW_STATUS" "001, 2.2.11"
    ∷ several 0x280 (there_of 32 32 systems) 4 "ENA_STATUS" "001, 2.2.12"
    ∷ several 0x300 (there_of 32 32 systems) 4 "ENABLE" "001, 2.2.13"
    ∷ several 0x380 (there_of 32 32 systems) 4 "ENABLE_CLR" "001, 2.2.14"
    ∷ several 0x400 (there_of 4 256 systems) 4 "CH_MAP" "001, 2.2.15"
    ∷ group 0x800 (there_of 4 64 channels) 4 (bytes "HINT_MAP") (by written "001, 2.2.16" "01, CIC")
    ∷ several 0x1500 (there_of 32 8 hosts) 4 "ENABLE_HINT" "001, 2.2.18"
    ∷ []

-- CIC (001, table 2-1): registers that stand alone; those of an index can only be written, which is said in 01
abbrev pub cic_rows : Bool → ℕ → ℕ → ℕ → List Row
cic_rows written systems channels hosts =
    single 0x000 "REVISION" "001, 2.2.1"
    ∷ single 0x010 "GLOBAL_ENABLE_HINT" "001, 2.2.3"
    ∷ alone 0x020 (bytes "STATUS_SET_INDEX") (by written "01, CIC" "001, 2.2.4")
    ∷ alone 0x024 (bytes "STATUS_CLR_INDEX") (by written "01, CIC" "001, 2.2.5")
    ∷ alone 0x028 (bytes "ENABLE_SET_INDEX") (by written "01, CIC" "001, 2.2.6")
    ∷ alone 0x02C (bytes "ENABLE_CLR_INDEX") (by written "01, CIC" "001, 2.2.7")
    ∷ alone 0x034 (bytes "HINT_ENABLE_SET_INDEX") (by written "01, CIC" "001, 2.2.8")
    ∷ alone 0x038 (bytes "HINT_ENABLE_CLR_INDEX") (by written "01, CIC" "001, 2.2.9")
    ∷ cic_groups written systems channels hosts

-- with prioritised indices (001, 2.2.2, 2.2.10 and 2.2.17); that an index is written is said in 1.3.5
abbrev pub index_rows : Bool → ℕ → ℕ → ℕ → List Row
index_rows written systems channels hosts =
    single 0x004 "CONTROL" "001, 2.2.2"
    ∷ alone 0x080 (bytes "GLOBAL_PRI_INDEX") (by written "001, 2.2.10" "001, 1.3.5")
    ∷ group 0x900 (at_most 256 hosts) 4 (bytes "HINT_PRI_INDEX") (by written "001, 2.2.17" "001, 1.3.5")
    ∷ cic_rows written systems channels hosts

-- four banks, and the routes; that MIR is written is said in 4.4.1
abbrev pub aintc_banks : Bool → List Row
aintc_banks written =
    several 0x080 4 0x20 "ITR" "000, 4.5.12"
    ∷ group 0x084 4 0x20 (bytes "MIR") (by written "000, 4.5.13" "000, 4.4.1")
    ∷ several 0x088 4 0x20 "MIR_CLEAR" "000, 4.5.14"
    ∷ several 0x08C 4 0x20 "MIR_SET" "000, 4.5.15"
    ∷ several 0x090 4 0x20 "ISR_SET" "000, 4.5.16"
    ∷ several 0x094 4 0x20 "ISR_CLEAR" "000, 4.5.17"
    ∷ several 0x098 4 0x20 "PENDING_IRQ" "000, 4.5.18"
    ∷ several 0x09C 4 0x20 "PENDING_FIQ" "000, 4.5.19"
    ∷ several 0x100 128 4 "ILR" "000, 4.5.20"
    ∷ []

-- AINTC (000, table 4-3): registers that stand alone
abbrev pub aintc_rows : Bool → List Row
aintc_rows written =
    single 0x000 "REVISION" "000, 4.5.1"
    ∷ single 0x010 "SYSCONFIG" "000, 4.5.2"
    ∷ single 0x014 "SYSSTATUS" "000, 4.5.3"
    ∷ single 0x040 "SIR_IRQ" "000, 4.5.4"
    ∷ single 0x044 "SIR_FIQ" "000, 4.5.5"
    ∷ single 0x048 "CONTROL" "000, 4.5.6"
    ∷ single 0x04C "PROTECTION" "000, 4.5.7"
    ∷ single 0x050 "IDLE" "000, 4.5.8"
    ∷ single 0x060 "IRQ_PRIORITY" "000, 4.5.9"
    ∷ single 0x064 "FIQ_PRIORITY" "000, 4.5.10"
    ∷ single 0x068 "THRESHOLD" "000, 4.5.11"
    ∷ aintc_banks written
