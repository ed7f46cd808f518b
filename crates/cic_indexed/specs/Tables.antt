-- The sentences of which the promises are made: which system interrupt an index names, what ends a hold, what turns the hold mode, and the registers.
use Rattle.std.specs.Prelude.{true, false, ◌↔◌, ◌≢◌, ◌⊎◌, ◌≡◌, ℕ, ◌+◌, ◌*◌, ◌/◌, ◌%◌, ◌<◌, ◌≤◌}
use Rattle.words.specs.Word.{bit}
use Rattle.steps.specs.declared.Access.{Access}
use Rattle.steps.specs.declared.Access.TheVariants.{NoRegister, ReadWrite}
use Rattle.steps.specs.declared.Step.{Step}
use Rattle.steps.specs.declared.Step.TheVariants.{Write}
use Rattle.cic_record.specs.declared.Cic.{Cic}
use Rattle.cic_record.specs.Kinds.{system}
use Rattle.cic_registers.specs.Map.{access}
use Rattle.cic_held.specs.Order.{comes_before}
use Rattle.cic_held.specs.declared.Held.{Held}
use Rattle.cic_held.specs.declared.Prioritised.{Prioritised}
use Rattle.cic_indexed.specs.Registers.{own_at, access_of}

-- ---- which system interrupt an index names (02, 6/12; 001, 1.3.5)

-- the word of an index over the system interrupts that meet its conditions
pub record Names (c : Cic) (Meets : ℕ → Type 0) (word : ℕ) : Type 0 where
  -- it is 0x80000000 exactly if none does, and something else exactly if there is one (02, 6/12; 001, 2.2.10 and 2.2.17)
  pub none : (word ≡ 0x80000000) ↔ ((s : ℕ) → Meets s → ⊥)
  pub some : (word ≢ 0x80000000) ↔ ((s : ℕ) × Meets s)
  -- it is then the number of one that does, and no other that does comes before it (02, 6/12; 001, 1.3.5)
  pub meets : word ≢ 0x80000000 → Meets word
  pub first : word ≢ 0x80000000 → (s : ℕ) → Meets s → comes_before c (system s) (system word) ≡ false

-- ---- which writes of v at the offset o end a hold (001, 1.3.5 and 2.2.2)

-- host interrupt h is set or cleared: by index, or by a 1 in its bit of the host enables
abbrev pub Changes : ℕ → ℕ → ℕ → Type 0
Changes h o v = ((o ≡ 0x034) × (v ≡ h)) ⊎ (((o ≡ 0x038) × (v ≡ h)) ⊎ ((o ≡ 0x1500 + 4 * (h / 32)) × (bit v (h % 32) ≡ true)))

-- the hold mode is turned off
abbrev pub TurnsOff : ℕ → ℕ → Type 0
TurnsOff o v = (o ≡ 0x004) × (bit v 4 ≡ false)

-- that of host h's index: the index is written, or the host is set or cleared
abbrev pub EndsHost : ℕ → ℕ → ℕ → Type 0
EndsHost h o v = (o ≡ 0x900 + 4 * h) ⊎ (Changes h o v ⊎ TurnsOff o v)

-- that of the global index: it is written, or one of the hosts is set or cleared
abbrev pub EndsGlobal : ℕ → ℕ → ℕ → Type 0
EndsGlobal hosts o v = (o ≡ 0x080) ⊎ (((h : ℕ) × (h < hosts) × Changes h o v) ⊎ TurnsOff o v)

-- ---- which steps turn the hold mode off, or on (001, 2.2.2)

-- a write of 0x004 where the choice is on, whose bit 4 is not the mode
abbrev pub Turns : Held → Step → Type 0
Turns held x =
    (v : ℕ) × (x ≡ Write 0x004 v) × ((held.choice ≡ 1) × (((held.hold ≡ 1) × (bit v 4 ≡ false)) ⊎ ((held.hold ≡ 0) × (bit v 4 ≡ true))))

-- ---- the registers (001, table 2-1)

-- what the register at an offset may be used for
abbrev pub access_at : Prioritised → ℕ → Access
access_at p o = access_of p o (own_at p o)

-- where the choice is on: control, the global index, and an index for each host (001, 2.2.2, 2.2.10 and 2.2.17); else the CIC's
pub record MapTable (p : Prioritised) : Type 0 where
  pub control : access_at p 0x004 ≡ ReadWrite
  pub global_index : access_at p 0x080 ≡ ReadWrite
  pub host_index : (h : ℕ) → h < 256 → ((access_at p (0x900 + 4 * h) ≡ ReadWrite) ↔ (h < p.cic.hosts)) × ((access_at p (0x900 + 4 * h) ≡ NoRegister) ↔ (p.cic.hosts ≤ h))
  pub elsewhere : (o : ℕ) → o ≢ 0x004 → o ≢ 0x080 → (o < 0x900) ⊎ (0xD00 ≤ o) → access_at p o ≡ access p.cic o
