-- The map, the reads and the writes as sentences, register by register: the promises are made of these.
use Rattle.std.specs.Prelude.{ℕ, ◌+◌, ◌-◌, ◌*◌, ◌%◌, ◌^◌, ◌<◌, ◌≡◌, Bool, true, false, not, ◌&&◌, ◌||◌, ◌↔◌, ◌≢◌, ◌⊎◌, eqb, set}
use Rattle.words.specs.Choice.{pick}
use Rattle.words.specs.Counting.{one}
use Rattle.words.specs.Word.{bit}
use Rattle.steps.specs.declared.Access.TheVariants.{NoRegister, ReadOnly, WriteOnly, ReadWrite}
use Rattle.aic_record.specs.declared.Aic.{Aic}
use Rattle.aic_record.specs.Record.{nothing_seen, with_enabled, with_memory, with_forced, with_spurious, with_debug, with_mode, with_vector, with_handlers, with_seen}
use Rattle.aic_record.specs.Mode.{mode_at, type_of, kept_mode, kind, edge}
use Rattle.aic_record.specs.Sound.{source_at, protects}
use Rattle.aic_sources.specs.Pending.{pending_word}
use Rattle.aic_sources.specs.Fast.{fiq}
use Rattle.aic_sources.specs.Normal.{irq}
use Rattle.aic_registers.specs.declared.Answer.{Answer}
use Rattle.aic_registers.specs.Map.{access}
use Rattle.aic_registers.specs.Handlers.{answered, vector_at}
use Rattle.aic.specs.Model.{read, write}

-- the step is carried out and answers `value`; its record is what `put` makes of a word whose bit k is `f k` for each source k, and which has
-- no other bit where the word `old`, in whose stead it stands, has none
pub record Sets (a : Answer) (value old : ℕ) (put : ℕ → Aic) (f : ℕ → Bool) : Type 0 where
  pub word : ℕ
  pub done : a ≡ answered (put word) value
  pub bits : (k : ℕ) → k < 32 → bit word k ≡ f k
  pub below : old < 2 ^ 32 → word < 2 ^ 32

-- what each register allows, and which aligned offsets have none (01, AIC, Map; 003, table 27-2)
pub record MapTable : Type 0 where
  -- the modes from 0x00 and the vectors from 0x80, one for each source
  pub modes : (k : ℕ) → k < 32 → access (k * 4) ≡ ReadWrite
  pub vectors : (k : ℕ) → k < 32 → access (0x80 + k * 4) ≡ ReadWrite
  -- IVR, which too takes writes, SPU and DCR
  pub read_write : (access 0x100 ≡ ReadWrite) × (access 0x134 ≡ ReadWrite) × (access 0x138 ≡ ReadWrite)
  -- FVR, ISR, IPR, IMR, CISR and FFSR
  pub read_only : (access 0x104 ≡ ReadOnly) × (access 0x108 ≡ ReadOnly) × (access 0x10C ≡ ReadOnly) × (access 0x110 ≡ ReadOnly) × (access 0x114 ≡ ReadOnly)
      × (access 0x148 ≡ ReadOnly)
  -- enable, disable, clear, set, EOICR, FFER and FFDR
  pub write_only : (access 0x120 ≡ WriteOnly) × (access 0x124 ≡ WriteOnly) × (access 0x128 ≡ WriteOnly) × (access 0x12C ≡ WriteOnly)
      × (access 0x130 ≡ WriteOnly) × (access 0x140 ≡ WriteOnly) × (access 0x144 ≡ WriteOnly)
  -- two offsets after CISR, one after DCR, and all past FFSR
  pub absent : (o : ℕ) → o % 4 ≡ 0 → (access o ≡ NoRegister) ↔ ((o ≡ 0x118) ⊎ ((o ≡ 0x11C) ⊎ ((o ≡ 0x13C) ⊎ (0x148 < o))))

-- what a read of each register answers that changes nothing, of a sound record
pub record Reads (s : Aic) : Type 0 where
  pub modes : (k : ℕ) → k < 32 → read s (k * 4) ≡ answered s (mode_at s k)
  pub vectors : (k : ℕ) → k < 32 → read s (0x80 + k * 4) ≡ answered s (vector_at s k)
  -- ISR: the source of the last entry, which of a mark is 0; 0 if none is open (02, 3/12; 003, 27.8.7)
  pub none_open : s.depth ≡ 0 → read s 0x108 ≡ answered s 0
  pub some_open : s.depth ≢ 0 → read s 0x108 ≡ answered s (source_at s (s.depth - 1))
  -- IPR: the pending sources, enabled or not (003, 27.8.8)
  pub pendings : read s 0x10C ≡ answered s (pending_word s)
  -- IMR: the enabled sources (003, 27.8.9)
  pub enables : read s 0x110 ≡ answered s s.enabled
  -- CISR: bit 0 the FIQ output, bit 1 the IRQ output, as masked (003, 27.8.10)
  pub outputs : read s 0x114 ≡ answered s (one (fiq s) + 2 * one (irq s))
  -- SPU and DCR
  pub spurious : read s 0x134 ≡ answered s s.spurious
  pub debug : read s 0x138 ≡ answered s s.debug
  -- FFSR: the forced sources (003, 27.8.20)
  pub forced : read s 0x148 ≡ answered s s.forced

-- what a write of the value v does to a sound record: of each word bit by bit, and to nothing else
pub record Writes (s : Aic) (v : ℕ) : Type 0 where
  -- a mode that alters the type of source k clears its memory, and no other
  pub retyped : (k : ℕ) → k < 32 → kind s k ≢ type_of v
      → Sets (write s (k * 4) v) 0 s.memory (λ w. with_mode (with_memory s w) (set s.mode k (kept_mode v))) (λ j. bit s.memory j && not (eqb j k))
  -- a mode that alters the priority alone clears none
  pub reranked : (k : ℕ) → k < 32 → kind s k ≡ type_of v → write s (k * 4) v ≡ answered (with_mode s (set s.mode k (kept_mode v))) 0
  pub vectors : (k : ℕ) → k < 32 → write s (0x80 + k * 4) v ≡ answered (with_vector s (set s.vector k v)) 0
  -- outside protect mode a write of IVR does nothing (003, 27.7.5)
  pub ignored : protects s ≡ false → write s 0x100 v ≡ answered s 0
  -- each bit written as 1 enables, or disables, its source (003, 27.7.1.2)
  pub enables : Sets (write s 0x120 v) 0 s.enabled (with_enabled s) (λ k. bit s.enabled k || bit v k)
  pub disables : Sets (write s 0x124 v) 0 s.enabled (with_enabled s) (λ k. bit s.enabled k && not (bit v k))
  -- each bit written as 1 sets, or clears, the memory of its source if that is edge-triggered (003, 27.7.1.3)
  pub sets : Sets (write s 0x12C v) 0 s.memory (with_memory s) (λ k. bit s.memory k || (bit v k && edge s k))
  pub clears : Sets (write s 0x128 v) 0 s.memory (with_memory s) (λ k. bit s.memory k && not (bit v k && edge s k))
  -- EOICR closes the last entry, mark or handler; with none open it does nothing (02, 3/12; 003, 27.7.3.4)
  pub closes : s.depth ≢ 0
      → write s 0x130 v ≡ answered (with_handlers s (set s.source (s.depth - 1) 0) (set s.level (s.depth - 1) 0) (s.depth - 1)) 0
  pub closes_none : s.depth ≡ 0 → write s 0x130 v ≡ answered s 0
  -- SPU is stored whole (003, 27.8.16)
  pub spurious : write s 0x134 v ≡ answered (with_spurious s v) 0
  -- of debug control bits 0 and 1 are kept: with bit 0, protect mode entered or kept, what is remembered stays; without it that is forgotten
  -- (02, 9/12; 003, 27.7.5 and 27.7.7)
  pub protecting : bit v 0 ≡ true → write s 0x138 v ≡ answered (with_debug s (pick (bit v 1) 3 1)) 0
  pub leaving : bit v 0 ≡ false → write s 0x138 v ≡ answered (with_seen (with_debug s (pick (bit v 1) 2 0)) nothing_seen) 0
  -- each bit written as 1 forces its source, save source 0, or no longer forces it (003, 27.7.4.5)
  pub forces : Sets (write s 0x140 v) 0 s.forced (with_forced s) (λ k. bit s.forced k || (bit v k && not (eqb k 0)))
  pub unforces : Sets (write s 0x144 v) 0 s.forced (with_forced s) (λ k. bit s.forced k && not (bit v k))
