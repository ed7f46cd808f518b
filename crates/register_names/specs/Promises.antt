-- What is promised of the maps: names and sections as the makers' tables have them, and a name exactly where the model has a register.
use Rattle.std.specs.Prelude.{ℕ, ◌%◌, ◌≡◌, Bool, true, false, List, [], ◌∷◌, ◌↔◌, ◌≢◌, ◌⊎◌}
use Prim.Native.String.{String}
use Rattle.text.specs.Phrases.{bytes}
use Rattle.steps.specs.declared.Access.TheVariants.{NoRegister}
use Rattle.aic_registers.specs.Map.{access as aic_access}
use Rattle.coreinterrupt.specs.declared.Core.{Core}
use Rattle.coreinterrupt.specs.Model.{access as core_access}
use Rattle.cic_record.specs.declared.Cic.{Cic}
use Rattle.cic_registers.specs.Map.{access as cic_access}
use Rattle.cic_held.specs.declared.Prioritised.{Prioritised}
use Rattle.cic_indexed.specs.Tables.{access_at}
use Rattle.aintc_registers.specs.Map.{access as aintc_access}
use Rattle.register_names.specs.Rows.{Row, place_in}
use Rattle.register_names.specs.Maps.{aic_rows, core_rows, cic_rows, index_rows, aintc_rows}

-- at each of these offsets a map says these words
abbrev pub Says : List Row → List (ℕ × String) → Type 0
Says rows [] = Unit
Says rows (e ∷ es) = (place_in rows e.0 ≡ bytes e.1) × Says rows es

-- a map names nothing at an offset exactly if that is no multiple of 4 or the model has no register there
abbrev pub Exactly : List Row → ℕ → Type 0 → Type 0
Exactly rows o absent = (place_in rows o ≡ []) ↔ ((o % 4 ≢ 0) ⊎ absent)

pub record Promises : Type 0 where
  -- the AIC: every register that stands alone, and the first and the last of those that repeat (003, table 27-2)
  pub aic_read : Says (aic_rows false)
      ((0x000, " SMR0 (003, 27.8.3)")
      ∷ (0x07C, " SMR31 (003, 27.8.3)")
      ∷ (0x080, " SVR0 (003, 27.8.4)")
      ∷ (0x0FC, " SVR31 (003, 27.8.4)")
      ∷ (0x100, " IVR (003, 27.8.5)")
      ∷ (0x104, " FVR (003, 27.8.6)")
      ∷ (0x108, " ISR (003, 27.8.7)")
      ∷ (0x10C, " IPR (003, 27.8.8)")
      ∷ (0x110, " IMR (003, 27.8.9)")
      ∷ (0x114, " CISR (003, 27.8.10)")
      ∷ (0x120, " IECR (003, 27.8.11)")
      ∷ (0x124, " IDCR (003, 27.8.12)")
      ∷ (0x128, " ICCR (003, 27.8.13)")
      ∷ (0x12C, " ISCR (003, 27.8.14)")
      ∷ (0x130, " EOICR (003, 27.8.15)")
      ∷ (0x134, " SPU (003, 27.8.16)")
      ∷ (0x138, " DCR (003, 27.8.17)")
      ∷ (0x140, " FFER (003, 27.8.18)")
      ∷ (0x144, " FFDR (003, 27.8.19)")
      ∷ (0x148, " FFSR (003, 27.8.20)") ∷ [])
  -- that IVR is written is said in 27.7.5 (003)
  pub aic_written : Says (aic_rows true)
      ((0x100, " IVR (003, 27.7.5)") ∷ [])
  -- CoreInterrupt (004, table 3)
  pub core : Says (core_rows)
      ((0x000, " FIQSoftInt (004, page 5)")
      ∷ (0x004, " FIQSoftIntClear (004, page 5)")
      ∷ (0x008, " FIQEnable (004, page 5)")
      ∷ (0x00C, " FIQEnableClear (004, page 5)")
      ∷ (0x010, " FIQRawStatus (004, page 5)")
      ∷ (0x014, " FIQStatus (004, page 5)")
      ∷ (0x018, " IRQSoftInt (004, page 5)")
      ∷ (0x01C, " IRQSoftIntClear (004, page 5)")
      ∷ (0x020, " IRQEnable (004, page 6)")
      ∷ (0x024, " IRQEnableClear (004, page 6)")
      ∷ (0x028, " IRQRawStatus (004, page 6)")
      ∷ (0x02C, " IRQStatus (004, page 6)") ∷ [])
  -- a CIC of 1,024 systems, 256 channels and 256 hosts; that an index cannot be read is said in 01 (001, table 2-1)
  pub cic_read : Says (cic_rows false 1024 256 256)
      ((0x000, " REVISION (001, 2.2.1)")
      ∷ (0x010, " GLOBAL_ENABLE_HINT (001, 2.2.3)")
      ∷ (0x020, " STATUS_SET_INDEX (01, CIC)")
      ∷ (0x024, " STATUS_CLR_INDEX (01, CIC)")
      ∷ (0x028, " ENABLE_SET_INDEX (01, CIC)")
      ∷ (0x02C, " ENABLE_CLR_INDEX (01, CIC)")
      ∷ (0x034, " HINT_ENABLE_SET_INDEX (01, CIC)")
      ∷ (0x038, " HINT_ENABLE_CLR_INDEX (01, CIC)")
      ∷ (0x200, " RAW_STATUS0 (001, 2.2.11)")
      ∷ (0x27C, " RAW_STATUS31 (001, 2.2.11)")
      ∷ (0x280, " ENA_STATUS0 (001, 2.2.12)")
      ∷ (0x2FC, " ENA_STATUS31 (001, 2.2.12)")
      ∷ (0x300, " ENABLE0 (001, 2.2.13)")
      ∷ (0x37C, " ENABLE31 (001, 2.2.13)")
      ∷ (0x380, " ENABLE_CLR0 (001, 2.2.14)")
      ∷ (0x3FC, " ENABLE_CLR31 (001, 2.2.14)")
      ∷ (0x400, " CH_MAP0 (001, 2.2.15)")
      ∷ (0x7FC, " CH_MAP255 (001, 2.2.15)")
      ∷ (0x800, " HINT_MAP0 (001, 2.2.16)")
      ∷ (0x8FC, " HINT_MAP63 (001, 2.2.16)")
      ∷ (0x1500, " ENABLE_HINT0 (001, 2.2.18)")
      ∷ (0x151C, " ENABLE_HINT7 (001, 2.2.18)") ∷ [])
  -- writes of it: the indices by their own pages, the host map by 01
  pub cic_written : Says (cic_rows true 1024 256 256)
      ((0x020, " STATUS_SET_INDEX (001, 2.2.4)")
      ∷ (0x024, " STATUS_CLR_INDEX (001, 2.2.5)")
      ∷ (0x028, " ENABLE_SET_INDEX (001, 2.2.6)")
      ∷ (0x02C, " ENABLE_CLR_INDEX (001, 2.2.7)")
      ∷ (0x034, " HINT_ENABLE_SET_INDEX (001, 2.2.8)")
      ∷ (0x038, " HINT_ENABLE_CLR_INDEX (001, 2.2.9)")
      ∷ (0x800, " HINT_MAP0 (01, CIC)")
      ∷ (0x8FC, " HINT_MAP63 (01, CIC)") ∷ [])
  -- what prioritised indices add (001, 2.2.2, 2.2.10 and 2.2.17)
  pub indexed_read : Says (index_rows false 1024 256 256)
      ((0x004, " CONTROL (001, 2.2.2)")
      ∷ (0x080, " GLOBAL_PRI_INDEX (001, 2.2.10)")
      ∷ (0x900, " HINT_PRI_INDEX0 (001, 2.2.17)")
      ∷ (0xCFC, " HINT_PRI_INDEX255 (001, 2.2.17)") ∷ [])
  -- that an index is written is said in 1.3.5 (001)
  pub indexed_written : Says (index_rows true 1024 256 256)
      ((0x004, " CONTROL (001, 2.2.2)")
      ∷ (0x080, " GLOBAL_PRI_INDEX (001, 1.3.5)")
      ∷ (0x900, " HINT_PRI_INDEX0 (001, 1.3.5)")
      ∷ (0xCFC, " HINT_PRI_INDEX255 (001, 1.3.5)") ∷ [])
  -- the AINTC (000, table 4-3)
  pub aintc_read : Says (aintc_rows false)
      ((0x000, " REVISION (000, 4.5.1)")
      ∷ (0x010, " SYSCONFIG (000, 4.5.2)")
      ∷ (0x014, " SYSSTATUS (000, 4.5.3)")
      ∷ (0x040, " SIR_IRQ (000, 4.5.4)")
      ∷ (0x044, " SIR_FIQ (000, 4.5.5)")
      ∷ (0x048, " CONTROL (000, 4.5.6)")
      ∷ (0x04C, " PROTECTION (000, 4.5.7)")
      ∷ (0x050, " IDLE (000, 4.5.8)")
      ∷ (0x060, " IRQ_PRIORITY (000, 4.5.9)")
      ∷ (0x064, " FIQ_PRIORITY (000, 4.5.10)")
      ∷ (0x068, " THRESHOLD (000, 4.5.11)")
      ∷ (0x080, " ITR0 (000, 4.5.12)")
      ∷ (0x0E0, " ITR3 (000, 4.5.12)")
      ∷ (0x084, " MIR0 (000, 4.5.13)")
      ∷ (0x0E4, " MIR3 (000, 4.5.13)")
      ∷ (0x088, " MIR_CLEAR0 (000, 4.5.14)")
      ∷ (0x0E8, " MIR_CLEAR3 (000, 4.5.14)")
      ∷ (0x08C, " MIR_SET0 (000, 4.5.15)")
      ∷ (0x0EC, " MIR_SET3 (000, 4.5.15)")
      ∷ (0x090, " ISR_SET0 (000, 4.5.16)")
      ∷ (0x0F0, " ISR_SET3 (000, 4.5.16)")
      ∷ (0x094, " ISR_CLEAR0 (000, 4.5.17)")
      ∷ (0x0F4, " ISR_CLEAR3 (000, 4.5.17)")
      ∷ (0x098, " PENDING_IRQ0 (000, 4.5.18)")
      ∷ (0x0F8, " PENDING_IRQ3 (000, 4.5.18)")
      ∷ (0x09C, " PENDING_FIQ0 (000, 4.5.19)")
      ∷ (0x0FC, " PENDING_FIQ3 (000, 4.5.19)")
      ∷ (0x100, " ILR0 (000, 4.5.20)")
      ∷ (0x2FC, " ILR127 (000, 4.5.20)") ∷ [])
  -- that MIR is written is said in 4.4.1 (000)
  pub aintc_written : Says (aintc_rows true)
      ((0x084, " MIR0 (000, 4.4.1)")
      ∷ (0x0E4, " MIR3 (000, 4.4.1)") ∷ [])
  -- ---- a name exactly where the map has a register

  pub aic_exactly : (written : Bool) (o : ℕ) → Exactly (aic_rows written) o (aic_access o ≡ NoRegister)
  pub core_exactly : (c : Core) (o : ℕ) → Exactly core_rows o (core_access c o ≡ NoRegister)
  -- of a CIC, and of one with prioritised indices, whatever numbers configure it
  pub cic_exactly : (c : Cic) (written : Bool) (o : ℕ) → Exactly (cic_rows written c.systems c.channels c.hosts) o (cic_access c o ≡ NoRegister)
  pub indexed_exactly : (p : Prioritised) (written : Bool) (o : ℕ) → p.held.choice ≡ 1
      → Exactly (index_rows written p.cic.systems p.cic.channels p.cic.hosts) o (access_at p o ≡ NoRegister)
  -- with the choice off the map of a CIC has them
  pub choice_off : (p : Prioritised) (written : Bool) (o : ℕ) → p.held.choice ≡ 0
      → Exactly (cic_rows written p.cic.systems p.cic.channels p.cic.hosts) o (access_at p o ≡ NoRegister)
  pub aintc_exactly : (written : Bool) (o : ℕ) → Exactly (aintc_rows written) o (aintc_access o ≡ NoRegister)
