-- The promises of the maps, kept.
use Prim.Native.Nat.{ℕ, ◌%◌, ◌<◌, ◌≤◌}
use mathlib.Core.Path.{◌≡◌, refl, sym, ap, ◌∙◌}
use mathlib.Core.Bool.{Bool, true, false, ◌&&◌}
use mathlib.Core.List.{[], ◌∷◌}
use mathlib.Core.Logic.{inr}
use native.Mathlib.Omega.{arith}
use native.Mathlib.Decide.{dec_lt}
use lib.Dec.{eqb, ltb}
use borrow.Author.Tests.{le-ltb, ltb-false}
use Rattle.words.specs.Choice.{pick}
use Rattle.words.specs.Counting.{all_below}
use Rattle.words.proofs.Promises.{kept as words}
use Rattle.text.specs.Text.{decimal_of}
use Rattle.text.specs.Phrases.{bytes, counted}
use Rattle.steps.specs.declared.Access.TheVariants.{NoRegister}
use Rattle.aic_registers.specs.Map.{access as aic_access}
use Rattle.aic.proofs.Promises.{kept as aic}
use Rattle.coreinterrupt.specs.declared.Core.{Core}
use Rattle.coreinterrupt.specs.Model.{access as core_access}
use Rattle.coreinterrupt.proofs.Promises.{kept as core-kept}
use Rattle.aintc_registers.specs.Map.{access as aintc_access, row_of, row_access}
use Rattle.aintc.proofs.Promises.{kept as aintc}
use Rattle.register_names.specs.Rows.{in_group, in_row, sectioned, named, numbered, row_words, place_in, there_of, at_most}
use Rattle.register_names.specs.Maps.{aic_rows, core_rows, cic_rows, index_rows, aintc_rows}
use Rattle.register_names.specs.Promises.{Says, Exactly, Promises}
use Rattle.register_names.proofs.CicLaws.{cic_exactly, indexed_exactly, choice-off}
use Rattle.register_names.proofs.ExactLaws.{any_row, known, known-none, none-known, and-off, exact, same, same-is, or-none, no_row, not_alone, not_words, not_banks, past}

aic_read : Says (aic_rows false)
    ((0x000, " SMR0 (003, 27.8.3)")
    ∷ (0x07C, " SMR31 (003, 27.8.3)")
    ∷ (0x080, " SVR0 (003, 27.8.4)")
    ∷ (0x0FC, " SVR31 (003, 27.8.4)")
    ∷ (0x100, " IVR (003, 27.8.5)")
    ∷ (0x104, " FVR (003, 27.8.6)")
    ∷ (0x108, " ISR (003, 27.8.7)")
    ∷ (0x10C, " IPR (003, 27.8.8)")
    ∷ (0x110, " IMR (003, 27.8.9)")
    ∷ (0x114, " CISR (003, 27.8.10)")
    ∷ (0x120, " IECR (003, 27.8.11)")
    ∷ (0x124, " IDCR (003, 27.8.12)")
    ∷ (0x128, " ICCR (003, 27.8.13)")
    ∷ (0x12C, " ISCR (003, 27.8.14)")
    ∷ (0x130, " EOICR (003, 27.8.15)")
    ∷ (0x134, " SPU (003, 27.8.16)")
    ∷ (0x138, " DCR (003, 27.8.17)")
    ∷ (0x140, " FFER (003, 27.8.18)")
    ∷ (0x144, " FFDR (003, 27.8.19)")
    ∷ (0x148, " FFSR (003, 27.8.20)") ∷ [])
unfolding place_in in_row in_group row_words named numbered sectioned counted decimal_of there_of at_most bytes pick
aic_read = (refl, (refl, (refl, (refl, (refl, (refl, (refl, (refl, (refl, (refl, (refl, (refl, (refl, (refl, (refl, (refl, (refl, (refl, (refl, (refl, tt))))))))))))))))))))

aic_written : Says (aic_rows true)
    ((0x100, " IVR (003, 27.7.5)") ∷ [])
unfolding place_in in_row in_group row_words named numbered sectioned counted decimal_of there_of at_most bytes pick
aic_written = (refl, tt)

core : Says (core_rows)
    ((0x000, " FIQSoftInt (004, page 5)")
    ∷ (0x004, " FIQSoftIntClear (004, page 5)")
    ∷ (0x008, " FIQEnable (004, page 5)")
    ∷ (0x00C, " FIQEnableClear (004, page 5)")
    ∷ (0x010, " FIQRawStatus (004, page 5)")
    ∷ (0x014, " FIQStatus (004, page 5)")
    ∷ (0x018, " IRQSoftInt (004, page 5)")
    ∷ (0x01C, " IRQSoftIntClear (004, page 5)")
    ∷ (0x020, " IRQEnable (004, page 6)")
    ∷ (0x024, " IRQEnableClear (004, page 6)")
    ∷ (0x028, " IRQRawStatus (004, page 6)")
    ∷ (0x02C, " IRQStatus (004, page 6)") ∷ [])
unfolding place_in in_row in_group row_words named numbered sectioned counted decimal_of there_of at_most bytes pick
core = (refl, (refl, (refl, (refl, (refl, (refl, (refl, (refl, (refl, (refl, (refl, (refl, tt))))))))))))

cic_read : Says (cic_rows false 1024 256 256)
    ((0x000, " REVISION (001, 2.2.1)")
    ∷ (0x010, " GLOBAL_ENABLE_HINT (001, 2.2.3)")
    ∷ (0x020, " STATUS_SET_INDEX (01, CIC)")
    ∷ (0x024, " STATUS_CLR_INDEX (01, CIC)")
    ∷ (0x028, " ENABLE_SET_INDEX (01, CIC)")
    ∷ (0x02C, " ENABLE_CLR_INDEX (01, CIC)")
    ∷ (0x034, " HINT_ENABLE_SET_INDEX (01, CIC)")
    ∷ (0x038, " HINT_ENABLE_CLR_INDEX (01, CIC)")
    ∷ (0x200, " RAW_STATUS0 (001, 2.2.11)")
    ∷ (0x27C, " RAW_STATUS31 (001, 2.2.11)")
    ∷ (0x280, " ENA_STATUS0 (001, 2.2.12)")
    ∷ (0x2FC, " ENA_STATUS31 (001, 2.2.12)")
    ∷ (0x300, " ENABLE0 (001, 2.2.13)")
    ∷ (0x37C, " ENABLE31 (001, 2.2.13)")
    ∷ (0x380, " ENABLE_CLR0 (001, 2.2.14)")
    ∷ (0x3FC, " ENABLE_CLR31 (001, 2.2.14)")
    ∷ (0x400, " CH_MAP0 (001, 2.2.15)")
    ∷ (0x7FC, " CH_MAP255 (001, 2.2.15)")
    ∷ (0x800, " HINT_MAP0 (001, 2.2.16)")
    ∷ (0x8FC, " HINT_MAP63 (001, 2.2.16)")
    ∷ (0x1500, " ENABLE_HINT0 (001, 2.2.18)")
    ∷ (0x151C, " ENABLE_HINT7 (001, 2.2.18)") ∷ [])
unfolding place_in in_row in_group row_words named numbered sectioned counted decimal_of there_of at_most bytes pick
cic_read = (refl, (refl, (refl, (refl, (refl, (refl, (refl, (refl, (refl, (refl, (refl, (refl, (refl, (refl, (refl, (refl, (refl, (refl, (refl, (refl, (refl, (refl, tt))))))))))))))))))))))

cic_written : Says (cic_rows true 1024 256 256)
    ((0x020, " STATUS_SET_INDEX (001, 2.2.4)")
    ∷ (0x024, " STATUS_CLR_INDEX (001, 2.2.5)")
    ∷ (0x028, " ENABLE_SET_INDEX (001, 2.2.6)")
    ∷ (0x02C, " ENABLE_CLR_INDEX (001, 2.2.7)")
    ∷ (0x034, " HINT_ENABLE_SET_INDEX (001, 2.2.8)")
    ∷ (0x038, " HINT_ENABLE_CLR_INDEX (001, 2.2.9)")
    ∷ (0x800, " HINT_MAP0 (01, CIC)")
    ∷ (0x8FC, " HINT_MAP63 (01, CIC)") ∷ [])
unfolding place_in in_row in_group row_words named numbered sectioned counted decimal_of there_of at_most bytes pick
cic_written = (refl, (refl, (refl, (refl, (refl, (refl, (refl, (refl, tt))))))))

indexed_read : Says (index_rows false 1024 256 256)
    ((0x004, " CONTROL (001, 2.2.2)")
    ∷ (0x080, " GLOBAL_PRI_INDEX (001, 2.2.10)")
    ∷ (0x900, " HINT_PRI_INDEX0 (001, 2.2.17)")
    ∷ (0xCFC, " HINT_PRI_INDEX255 (001, 2.2.17)") ∷ [])
unfolding place_in in_row in_group row_words named numbered sectioned counted decimal_of there_of at_most bytes pick
indexed_read = (refl, (refl, (refl, (refl, tt))))

indexed_written : Says (index_rows true 1024 256 256)
    ((0x004, " CONTROL (001, 2.2.2)")
    ∷ (0x080, " GLOBAL_PRI_INDEX (001, 1.3.5)")
    ∷ (0x900, " HINT_PRI_INDEX0 (001, 1.3.5)")
    ∷ (0xCFC, " HINT_PRI_INDEX255 (001, 1.3.5)") ∷ [])
unfolding place_in in_row in_group row_words named numbered sectioned counted decimal_of there_of at_most bytes pick
indexed_written = (refl, (refl, (refl, (refl, tt))))

aintc_read : Says (aintc_rows false)
    ((0x000, " REVISION (000, 4.5.1)")
    ∷ (0x010, " SYSCONFIG (000, 4.5.2)")
    ∷ (0x014, " SYSSTATUS (000, 4.5.3)")
    ∷ (0x040, " SIR_IRQ (000, 4.5.4)")
    ∷ (0x044, " SIR_FIQ (000, 4.5.5)")
    ∷ (0x048, " CONTROL (000, 4.5.6)")
    ∷ (0x04C, " PROTECTION (000, 4.5.7)")
    ∷ (0x050, " IDLE (000, 4.5.8)")
    ∷ (0x060, " IRQ_PRIORITY (000, 4.5.9)")
    ∷ (0x064, " FIQ_PRIORITY (000, 4.5.10)")
    ∷ (0x068, " THRESHOLD (000, 4.5.11)")
    ∷ (0x080, " ITR0 (000, 4.5.12)")
    ∷ (0x0E0, " ITR3 (000, 4.5.12)")
    ∷ (0x084, " MIR0 (000, 4.5.13)")
    ∷ (0x0E4, " MIR3 (000, 4.5.13)")
    ∷ (0x088, " MIR_CLEAR0 (000, 4.5.14)")
    ∷ (0x0E8, " MIR_CLEAR3 (000, 4.5.14)")
    ∷ (0x08C, " MIR_SET0 (000, 4.5.15)")
    ∷ (0x0EC, " MIR_SET3 (000, 4.5.15)")
    ∷ (0x090, " ISR_SET0 (000, 4.5.16)")
    ∷ (0x0F0, " ISR_SET3 (000, 4.5.16)")
    ∷ (0x094, " ISR_CLEAR0 (000, 4.5.17)")
    ∷ (0x0F4, " ISR_CLEAR3 (000, 4.5.17)")
    ∷ (0x098, " PENDING_IRQ0 (000, 4.5.18)")
    ∷ (0x0F8, " PENDING_IRQ3 (000, 4.5.18)")
    ∷ (0x09C, " PENDING_FIQ0 (000, 4.5.19)")
    ∷ (0x0FC, " PENDING_FIQ3 (000, 4.5.19)")
    ∷ (0x100, " ILR0 (000, 4.5.20)")
    ∷ (0x2FC, " ILR127 (000, 4.5.20)") ∷ [])
unfolding place_in in_row in_group row_words named numbered sectioned counted decimal_of there_of at_most bytes pick
aintc_read = (refl, (refl, (refl, (refl, (refl, (refl, (refl, (refl, (refl, (refl, (refl, (refl, (refl, (refl, (refl, (refl, (refl, (refl, (refl, (refl, (refl, (refl, (refl, (refl, (refl, (refl, (refl, (refl, (refl, tt)))))))))))))))))))))))))))))

aintc_written : Says (aintc_rows true)
    ((0x084, " MIR0 (000, 4.4.1)")
    ∷ (0x0E4, " MIR3 (000, 4.4.1)") ∷ [])
unfolding place_in in_row in_group row_words named numbered sectioned counted decimal_of there_of at_most bytes pick
aintc_written = (refl, (refl, tt))

-- ---- the AIC

aic_small : (written : Bool) → all_below 0x14C (λ o. same (any_row (aic_rows written) o) (eqb (o % 4) 0 && known (aic_access o))) ≡ true
unfolding all_below any_row known same in_row in_group aic_access pick
aic_small written = refl

aic-past : (written : Bool) (o : ℕ) → 0x14C ≤ o → any_row (aic_rows written) o ≡ false
aic-past written o h =
    or-none _ _ o (not_words 0x000 32 o _ _ (omega (arith, h)))
    (or-none _ _ o (not_words 0x080 32 o _ _ (omega (arith, h)))
    (or-none _ _ o (not_alone 0x100 o _ _ (omega (arith, h)))
    (or-none _ _ o (not_alone 0x104 o _ _ (omega (arith, h)))
    (or-none _ _ o (not_alone 0x108 o _ _ (omega (arith, h)))
    (or-none _ _ o (not_alone 0x10C o _ _ (omega (arith, h)))
    (or-none _ _ o (not_alone 0x110 o _ _ (omega (arith, h)))
    (or-none _ _ o (not_alone 0x114 o _ _ (omega (arith, h)))
    (or-none _ _ o (not_alone 0x120 o _ _ (omega (arith, h)))
    (or-none _ _ o (not_alone 0x124 o _ _ (omega (arith, h)))
    (or-none _ _ o (not_alone 0x128 o _ _ (omega (arith, h)))
    (or-none _ _ o (not_alone 0x12C o _ _ (omega (arith, h)))
    (or-none _ _ o (not_alone 0x130 o _ _ (omega (arith, h)))
    (or-none _ _ o (not_alone 0x134 o _ _ (omega (arith, h)))
    (or-none _ _ o (not_alone 0x138 o _ _ (omega (arith, h)))
    (or-none _ _ o (not_alone 0x140 o _ _ (omega (arith, h)))
    (or-none _ _ o (not_alone 0x144 o _ _ (omega (arith, h)))
    (or-none _ _ o (not_alone 0x148 o _ _ (omega (arith, h)))
    (no_row o))))))))))))))))))

aic_any : (written : Bool) (o : ℕ) → any_row (aic_rows written) o ≡ (eqb (o % 4) 0 && known (aic_access o))
aic_any written o = go (dec_lt o 0x14C)
  where
    go : Dec (o < 0x14C) → any_row (aic_rows written) o ≡ (eqb (o % 4) 0 && known (aic_access o))
    go (yes l) = same-is _ _ ((words.all_exactly 0x14C (λ k. same (any_row (aic_rows written) k) (eqb (k % 4) 0 && known (aic_access k)))).0 (aic_small written) o l)
    go (no l) = past (aic_rows written) o (aic_access o) (aic-past written o (omega (arith, l))) (λ z. (aic.map.absent o z).1 (inr (inr (inr (omega (arith, l))))))

aic_exactly : (written : Bool) (o : ℕ) → Exactly (aic_rows written) o (aic_access o ≡ NoRegister)
aic_exactly written o = exact (aic_rows written) o (known (aic_access o)) (aic_access o ≡ NoRegister) (known-none (aic_access o)) (none-known (aic_access o)) (aic_any written o)

-- ---- CoreInterrupt

core_small : all_below 0x30 (λ o. same (any_row core_rows o) (eqb (o % 4) 0 && ltb o 0x30)) ≡ true
unfolding all_below any_row same in_row pick
core_small = refl

core-past : (o : ℕ) → 0x30 ≤ o → any_row core_rows o ≡ false
core-past o h =
    or-none _ _ o (not_alone 0x000 o _ _ (omega (arith, h)))
    (or-none _ _ o (not_alone 0x004 o _ _ (omega (arith, h)))
    (or-none _ _ o (not_alone 0x008 o _ _ (omega (arith, h)))
    (or-none _ _ o (not_alone 0x00C o _ _ (omega (arith, h)))
    (or-none _ _ o (not_alone 0x010 o _ _ (omega (arith, h)))
    (or-none _ _ o (not_alone 0x014 o _ _ (omega (arith, h)))
    (or-none _ _ o (not_alone 0x018 o _ _ (omega (arith, h)))
    (or-none _ _ o (not_alone 0x01C o _ _ (omega (arith, h)))
    (or-none _ _ o (not_alone 0x020 o _ _ (omega (arith, h)))
    (or-none _ _ o (not_alone 0x024 o _ _ (omega (arith, h)))
    (or-none _ _ o (not_alone 0x028 o _ _ (omega (arith, h)))
    (or-none _ _ o (not_alone 0x02C o _ _ (omega (arith, h)))
    (no_row o))))))))))))

core_any : (o : ℕ) → any_row core_rows o ≡ (eqb (o % 4) 0 && ltb o 0x30)
core_any o = go (dec_lt o 0x30)
  where
    go : Dec (o < 0x30) → any_row core_rows o ≡ (eqb (o % 4) 0 && ltb o 0x30)
    go (yes l) = same-is _ _ ((words.all_exactly 0x30 (λ k. same (any_row core_rows k) (eqb (k % 4) 0 && ltb k 0x30))).0 core_small o l)
    go (no l) = core-past o (omega (arith, l)) ∙ sym (ap (λ (b : Bool). eqb (o % 4) 0 && b) (le-ltb o 0x30 (omega (arith, l))) ∙ and-off (eqb (o % 4) 0))

core_exactly : (c : Core) (o : ℕ) → Exactly core_rows o (core_access c o ≡ NoRegister)
core_exactly c o =
    exact core_rows o (ltb o 0x30) (core_access c o ≡ NoRegister) (λ e. ((core-kept.map c).absent o).1 (ltb-false o 0x30 e)) (λ e. le-ltb o 0x30 (((core-kept.map c).absent o).0 e)) (core_any o)

-- ---- the AINTC

aintc_small : (written : Bool) → all_below 0x300 (λ o. same (any_row (aintc_rows written) o) (eqb (o % 4) 0 && known (aintc_access o))) ≡ true
unfolding all_below any_row known same in_row in_group aintc_access row_of row_access pick
aintc_small written = refl

aintc-past : (written : Bool) (o : ℕ) → 0x300 ≤ o → any_row (aintc_rows written) o ≡ false
aintc-past written o h =
    or-none _ _ o (not_alone 0x000 o _ _ (omega (arith, h)))
    (or-none _ _ o (not_alone 0x010 o _ _ (omega (arith, h)))
    (or-none _ _ o (not_alone 0x014 o _ _ (omega (arith, h)))
    (or-none _ _ o (not_alone 0x040 o _ _ (omega (arith, h)))
    (or-none _ _ o (not_alone 0x044 o _ _ (omega (arith, h)))
    (or-none _ _ o (not_alone 0x048 o _ _ (omega (arith, h)))
    (or-none _ _ o (not_alone 0x04C o _ _ (omega (arith, h)))
    (or-none _ _ o (not_alone 0x050 o _ _ (omega (arith, h)))
    (or-none _ _ o (not_alone 0x060 o _ _ (omega (arith, h)))
    (or-none _ _ o (not_alone 0x064 o _ _ (omega (arith, h)))
    (or-none _ _ o (not_alone 0x068 o _ _ (omega (arith, h)))
    (or-none _ _ o (not_banks 0x080 o _ _ (omega (arith, h)))
    (or-none _ _ o (not_banks 0x084 o _ _ (omega (arith, h)))
    (or-none _ _ o (not_banks 0x088 o _ _ (omega (arith, h)))
    (or-none _ _ o (not_banks 0x08C o _ _ (omega (arith, h)))
    (or-none _ _ o (not_banks 0x090 o _ _ (omega (arith, h)))
    (or-none _ _ o (not_banks 0x094 o _ _ (omega (arith, h)))
    (or-none _ _ o (not_banks 0x098 o _ _ (omega (arith, h)))
    (or-none _ _ o (not_banks 0x09C o _ _ (omega (arith, h)))
    (or-none _ _ o (not_words 0x100 128 o _ _ (omega (arith, h)))
    (no_row o))))))))))))))))))))

aintc_any : (written : Bool) (o : ℕ) → any_row (aintc_rows written) o ≡ (eqb (o % 4) 0 && known (aintc_access o))
aintc_any written o = go (dec_lt o 0x300)
  where
    go : Dec (o < 0x300) → any_row (aintc_rows written) o ≡ (eqb (o % 4) 0 && known (aintc_access o))
    go (yes l) = same-is _ _ ((words.all_exactly 0x300 (λ k. same (any_row (aintc_rows written) k) (eqb (k % 4) 0 && known (aintc_access k)))).0 (aintc_small written) o l)
    go (no l) = past (aintc_rows written) o (aintc_access o) (aintc-past written o (omega (arith, l))) (λ z. aintc.map.nothing_after o (omega (arith, l)))

aintc_exactly : (written : Bool) (o : ℕ) → Exactly (aintc_rows written) o (aintc_access o ≡ NoRegister)
aintc_exactly written o = exact (aintc_rows written) o (known (aintc_access o)) (aintc_access o ≡ NoRegister) (known-none (aintc_access o)) (none-known (aintc_access o)) (aintc_any written o)

pub kept : Promises
kept = record { aic_read = aic_read; aic_written = aic_written; core = core; cic_read = cic_read; cic_written = cic_written; indexed_read = indexed_read; indexed_written = indexed_written; aintc_read = aintc_read; aintc_written = aintc_written; aic_exactly = aic_exactly; core_exactly = core_exactly; cic_exactly = cic_exactly; indexed_exactly = indexed_exactly; choice_off = choice-off; aintc_exactly = aintc_exactly }
