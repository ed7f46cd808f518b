-- When each number is given, the map, the reads and the writes as sentences, register by register: the promises are made of these.
use Rattle.std.specs.Prelude.{ℕ, ◌+◌, ◌*◌, ◌/◌, ◌%◌, ◌^◌, ◌<◌, ◌≤◌, ◌≡◌, Bool, true, false, not, ◌&&◌, ◌||◌, List, ◌↔◌, ◌≢◌, ◌⊎◌, get_or, set}
use Rattle.words.specs.Choice.{pick}
use Rattle.words.specs.Counting.{one}
use Rattle.words.specs.Word.{bit}
use Rattle.steps.specs.declared.Access.{Access}
use Rattle.steps.specs.declared.Access.TheVariants.{NoRegister, ReadOnly, WriteOnly, ReadWrite}
use Rattle.steps.specs.Tables.{Readable, Writable}
use Rattle.aintc_record.specs.declared.Aintc.{Aintc}
use Rattle.aintc_record.specs.Record.{with_soft, with_masks, with_routes, with_threshold, with_revision, with_guarded, with_autoidle, with_idle, with_sides, nobody, reset}
use Rattle.aintc_registers.specs.Inputs.{pending}
use Rattle.aintc_registers.specs.Settle.{settle}
use Rattle.aintc_registers.specs.declared.Answer.{Answer}
use Rattle.aintc_registers.specs.Map.{access}
use Rattle.aintc_registers.specs.Registers.{answered}
use Rattle.aintc_registers.specs.Model.{read, write}

-- ---- numbers

-- an aligned access at a privilege that there is, to a sound record
abbrev pub Reaches : Bool → ℕ → ℕ → Type 0
Reaches sound p o = (sound ≡ true) × (p ≤ 1) × (o % 4 ≡ 0)

-- the access is privileged, or nothing is protected and it is not one of the protection register (000, 4.3.2)
abbrev pub Open : Bool → ℕ → ℕ → Type 0
Open guarded p o = (p ≡ 1) ⊎ ((guarded ≡ false) × (o ≢ 0x4C))

-- n is what a read answers at the privilege p and the offset o, whose register allows this access (01, Numbers; 02, 2/12)
pub record ReadTable (sound guarded : Bool) (p o : ℕ) (access : Access) (n : ℕ) : Type 0 where
  pub twelve : (n ≡ 12) ↔ (sound ≡ false)
  pub six : (n ≡ 6) ↔ ((sound ≡ true) × (1 < p))
  pub one : (n ≡ 1) ↔ ((sound ≡ true) × (p ≤ 1) × (o % 4 ≢ 0))
  pub two : (n ≡ 2) ↔ (Reaches sound p o × (access ≡ NoRegister))
  pub thirteen : (n ≡ 13) ↔ (Reaches sound p o × (access ≢ NoRegister) × (p ≡ 0) × ((guarded ≡ true) ⊎ (o ≡ 0x4C)))
  pub three : (n ≡ 3) ↔ (Reaches sound p o × (access ≡ WriteOnly) × Open guarded p o)
  pub none : (n ≡ 0) ↔ (Reaches sound p o × Readable access × Open guarded p o)

-- n is what a write answers, of any value
pub record WriteTable (sound guarded : Bool) (p o : ℕ) (access : Access) (n : ℕ) : Type 0 where
  pub twelve : (n ≡ 12) ↔ (sound ≡ false)
  pub six : (n ≡ 6) ↔ ((sound ≡ true) × (1 < p))
  pub one : (n ≡ 1) ↔ ((sound ≡ true) × (p ≤ 1) × (o % 4 ≢ 0))
  pub two : (n ≡ 2) ↔ (Reaches sound p o × (access ≡ NoRegister))
  pub thirteen : (n ≡ 13) ↔ (Reaches sound p o × (access ≢ NoRegister) × (p ≡ 0) × ((guarded ≡ true) ⊎ (o ≡ 0x4C)))
  pub four : (n ≡ 4) ↔ (Reaches sound p o × (access ≡ ReadOnly) × Open guarded p o)
  pub none : (n ≡ 0) ↔ (Reaches sound p o × Writable access × Open guarded p o)

-- ---- registers

-- what each register allows, and which offsets have none (000, table 4-3 and figures 4-6 to 4-25)
pub record MapTable : Type 0 where
  pub revision : access 0x00 ≡ ReadWrite
  pub sysconfig : access 0x10 ≡ ReadWrite
  pub sysstatus : access 0x14 ≡ ReadOnly
  pub sir_irq : access 0x40 ≡ ReadOnly
  pub sir_fiq : access 0x44 ≡ ReadOnly
  pub control : access 0x48 ≡ WriteOnly
  pub protection : access 0x4C ≡ ReadWrite
  pub idle : access 0x50 ≡ ReadWrite
  pub irq_priority : access 0x60 ≡ ReadOnly
  pub fiq_priority : access 0x64 ≡ ReadOnly
  pub threshold : access 0x68 ≡ ReadWrite
  pub itr : (n : ℕ) → n < 4 → access (0x80 + 0x20 * n) ≡ ReadOnly
  -- MIR takes writes, though its figure says R (000, 4.4.1)
  pub mir : (n : ℕ) → n < 4 → access (0x84 + 0x20 * n) ≡ ReadWrite
  pub mir_clear : (n : ℕ) → n < 4 → access (0x88 + 0x20 * n) ≡ WriteOnly
  pub mir_set : (n : ℕ) → n < 4 → access (0x8C + 0x20 * n) ≡ WriteOnly
  pub isr_set : (n : ℕ) → n < 4 → access (0x90 + 0x20 * n) ≡ ReadWrite
  pub isr_clear : (n : ℕ) → n < 4 → access (0x94 + 0x20 * n) ≡ WriteOnly
  pub pending_irq : (n : ℕ) → n < 4 → access (0x98 + 0x20 * n) ≡ ReadOnly
  pub pending_fiq : (n : ℕ) → n < 4 → access (0x9C + 0x20 * n) ≡ ReadOnly
  pub ilr : (k : ℕ) → k < 128 → access (0x100 + 4 * k) ≡ ReadWrite
  -- nothing else below the banks, and nothing after the routes
  pub no_other : (o : ℕ) → o < 0x80 → o ≢ 0x00 → o ≢ 0x10 → o ≢ 0x14 → o ≢ 0x40 → o ≢ 0x44 → o ≢ 0x48 → o ≢ 0x4C → o ≢ 0x50 → o ≢ 0x60 → o ≢ 0x64 → o ≢ 0x68
      → access o ≡ NoRegister
  pub nothing_after : (o : ℕ) → 0x300 ≤ o → access o ≡ NoRegister

-- the read is carried out and changes nothing; its value is a word of 32 bits whose bit i is f i
abbrev pub Shows : Aintc → Answer → (ℕ → Bool) → Type 0
Shows s a f = (a ≡ answered s a.value) × (a.value < 2 ^ 32) × ((i : ℕ) → i < 32 → bit a.value i ≡ f i)

-- what a privileged read of each register answers, of a sound record; none changes it (000, 4.5)
pub record Reads (s : Aintc) : Type 0 where
  pub revision : read s 1 0x00 ≡ answered s s.revision
  -- AUTOIDLE in bit 0; the reset bit reads 0, and a reset is always complete (000, tables 4-5 and 4-6)
  pub sysconfig : read s 1 0x10 ≡ answered s (one s.autoidle)
  pub sysstatus : read s 1 0x14 ≡ answered s 1
  -- the number of the one that is chosen; with none the flag in bits 31:7, and 0 (000, 4.4.5)
  pub sir_irq : read s 1 0x40 ≡ answered s (pick s.irq.active s.irq.number 0xFFFFFF80)
  pub sir_fiq : read s 1 0x44 ≡ answered s (pick s.fiq.active s.fiq.number 0xFFFFFF80)
  pub protection : read s 1 0x4C ≡ answered s (one s.guarded)
  -- TURBO in bit 1, FUNCIDLE in bit 0 (000, figure 4-13)
  pub idle : read s 1 0x50 ≡ answered s (2 * one s.turbo + one s.funcidle)
  -- the priority that it had when it was chosen (000, 4.3.1.2.3)
  pub irq_priority : read s 1 0x60 ≡ answered s (pick s.irq.active s.irq.priority 0xFFFFFF80)
  pub fiq_priority : read s 1 0x64 ≡ answered s (pick s.fiq.active s.fiq.priority 0xFFFFFF80)
  pub threshold : read s 1 0x68 ≡ answered s s.threshold
  -- the lines, the masks, the soft interrupts (000, 4.5.12, 4.5.13 and 4.5.16)
  pub itr : (n : ℕ) → n < 4 → read s 1 (0x80 + 0x20 * n) ≡ answered s (get_or s.lines n 0)
  pub mir : (n : ℕ) → n < 4 → read s 1 (0x84 + 0x20 * n) ≡ answered s (get_or s.masks n 0)
  pub isr_set : (n : ℕ) → n < 4 → read s 1 (0x90 + 0x20 * n) ≡ answered s (get_or s.soft n 0)
  -- bit i tells whether input 32 * n + i is pending for IRQ, for FIQ (000, 4.3.1.2.1)
  pub pending_irq : (n : ℕ) → n < 4 → Shows s (read s 1 (0x98 + 0x20 * n)) (λ i. pending s false (32 * n + i))
  pub pending_fiq : (n : ℕ) → n < 4 → Shows s (read s 1 (0x9C + 0x20 * n)) (λ i. pending s true (32 * n + i))
  -- of the byte of input k, 2 * priority + output: the priority in bits 8:2, the output in bit 0 (000, figure 4-25)
  pub ilr : (k : ℕ) → k < 128 → read s 1 (0x100 + 4 * k) ≡ answered s (get_or s.routes k 0 / 2 % 128 * 4 + get_or s.routes k 0 % 2)

-- the write is carried out and answers 0; its record is what settling leaves of `put` of the array ws with word n put anew, a word of 32 bits
-- whose bit i is f i
pub record Sets (a : Answer) (put : List ℕ → Aintc) (ws : List ℕ) (n : ℕ) (f : ℕ → Bool) : Type 0 where
  pub word : ℕ
  pub done : a ≡ answered (settle (put (set ws n word))) 0
  pub fits : word < 2 ^ 32
  pub bits : (i : ℕ) → i < 32 → bit word i ≡ f i

-- what a privileged write of the value v does to a sound record, before the outputs take anything anew, and that it does nothing else (000, 4.5)
pub record Writes (s : Aintc) (v : ℕ) : Type 0 where
  -- bits 7:0 (000, figure 4-6)
  pub revision : write s 1 0x00 v ≡ answered (settle (with_revision s (v % 256))) 0
  -- a soft reset leaves the lines where they are, and takes bit 0 with it; settling then finds nothing (000, table 4-5)
  pub soft_reset : bit v 1 ≡ true → write s 1 0x10 v ≡ answered (reset s.lines) 0
  pub sysconfig : bit v 1 ≡ false → write s 1 0x10 v ≡ answered (settle (with_autoidle s (bit v 0))) 0
  -- bit 0 frees IRQ, bit 1 FIQ; a bit of 0 does nothing (000, table 4-9)
  pub control : write s 1 0x48 v ≡ answered (settle (with_sides s (pick (bit v 0) nobody s.irq) (pick (bit v 1) nobody s.fiq))) 0
  pub protection : write s 1 0x4C v ≡ answered (settle (with_guarded s (bit v 0))) 0
  -- bit 1 is TURBO, bit 0 FUNCIDLE (000, figure 4-13)
  pub idle : write s 1 0x50 v ≡ answered (settle (with_idle s (bit v 1) (bit v 0))) 0
  -- bits 7:0 (000, figure 4-16)
  pub threshold : write s 1 0x68 v ≡ answered (settle (with_threshold s (v % 256))) 0
  -- the masks of a bank are replaced; each bit written as 1 clears, or sets, its mask (000, 4.4.1, tables 4-17 and 4-18)
  pub mir : (n : ℕ) → n < 4 → write s 1 (0x84 + 0x20 * n) v ≡ answered (settle (with_masks s (set s.masks n v))) 0
  pub mir_clear : (n : ℕ) → n < 4 → Sets (write s 1 (0x88 + 0x20 * n) v) (with_masks s) s.masks n (λ i. bit (get_or s.masks n 0) i && not (bit v i))
  pub mir_set : (n : ℕ) → n < 4 → Sets (write s 1 (0x8C + 0x20 * n) v) (with_masks s) s.masks n (λ i. bit (get_or s.masks n 0) i || bit v i)
  -- each bit written as 1 sets, or clears, its soft interrupt (000, tables 4-19 and 4-20)
  pub isr_set : (n : ℕ) → n < 4 → Sets (write s 1 (0x90 + 0x20 * n) v) (with_soft s) s.soft n (λ i. bit (get_or s.soft n 0) i || bit v i)
  pub isr_clear : (n : ℕ) → n < 4 → Sets (write s 1 (0x94 + 0x20 * n) v) (with_soft s) s.soft n (λ i. bit (get_or s.soft n 0) i && not (bit v i))
  -- the priority of bits 8:2 and the output of bit 0, as 2 * priority + output (000, figure 4-25)
  pub ilr : (k : ℕ) → k < 128 → write s 1 (0x100 + 4 * k) v ≡ answered (settle (with_routes s (set s.routes k (v / 4 % 128 * 2 + v % 2)))) 0
