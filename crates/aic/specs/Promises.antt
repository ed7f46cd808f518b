-- What is promised of the controller: how it starts, when it refuses, what each step does, and that it stays sound.
use Rattle.std.specs.Prelude.{ℕ, ◌+◌, ◌-◌, ◌<◌, ◌≤◌, ◌≡◌, Bool, true, false, not, ◌&&◌, ◌||◌, ◌↔◌, ◌≢◌, ◌⊎◌, eqb, get_or, set}
use Rattle.words.specs.Word.{bit, with_bit}
use Rattle.steps.specs.declared.Step.{Step}
use Rattle.steps.specs.declared.Step.TheVariants.{Read, Write, Line}
use Rattle.steps.specs.Tables.{ReadTable, WriteTable, LineTable}
use Rattle.aic_record.specs.declared.Aic.{Aic}
use Rattle.aic_record.specs.declared.Seen.{Seen}
use Rattle.aic_record.specs.Record.{nothing_seen, with_lines, with_memory, with_debug, with_handlers, with_seen}
use Rattle.aic_record.specs.Mode.{priority, kind, edge}
use Rattle.aic_record.specs.Sound.{source_at, level_at, level_below, protects, sound}
use Rattle.aic_record.specs.Promises.{Shaped, Fresh}
use Rattle.aic_sources.specs.Pending.{pending}
use Rattle.aic_sources.specs.Fast.{fast, fiq}
use Rattle.aic_sources.specs.Normal.{candidate, irq}
use Rattle.aic_sources.specs.Promises.{AheadOfOthers}
use Rattle.aic_registers.specs.Map.{access}
use Rattle.aic_registers.specs.Handlers.{answered, refused, vector_at}
use Rattle.aic_registers.specs.Effects.{turns}
use Rattle.aic.specs.Model.{within, start, read, write, line, step, outputs}
use Rattle.aic.specs.Tables.{Sets, MapTable, Reads, Writes}

-- a step that neither shows nor sets the mask
abbrev pub MaskFree : Step → Type 0
MaskFree (Read o) = (o ≢ 0x114) × (o ≢ 0x138)
MaskFree (Write o v) = o ≢ 0x138
MaskFree (Line k l) = Unit {0}

-- a step that neither remembers, nor starts what is remembered, nor forgets it (02, 9/12)
abbrev pub SeenFree : Step → Type 0
SeenFree (Read o) = o ≢ 0x100
SeenFree (Write o v) = (o ≢ 0x100) × (o ≢ 0x138)
SeenFree (Line k l) = Unit {0}

pub record Promises : Type 0 where
  -- two configuration numbers, each any word; no start is refused; its record is that after reset, field by field, and it is sound
  -- (01, AIC, Configuration)
  pub configuration : (nth value : ℕ) → (within nth value ≡ true) ↔ (nth < 2)
  pub start_taken : (external lines : ℕ) → (start external lines).refusal ≡ 0
  pub start_is : (external lines : ℕ) → Fresh external lines (start external lines).aic
  pub start_sound : (external lines : ℕ) → (sound (start external lines).aic ≡ true) × Shaped (start external lines).aic
  -- a step of a recorded trace is a read, a write or a line step
  pub step_is : (s : Aic) (o v k l : ℕ) → (step s (Read o) ≡ read s o) × (step s (Write o v) ≡ write s o v) × (step s (Line k l) ≡ line s k l)
  -- what is carried out answers 0, a value and the record after it; what is refused its number, the value 0 and the record as it was (01, Numbers)
  pub answered_is : (s : Aic) (v : ℕ) → answered s v ≡ record { refusal = 0; value = v; aic = s }
  pub refused_is : (s : Aic) (n : ℕ) → refused s n ≡ record { refusal = n; value = 0; aic = s }
  -- the vector of source k; past the end of the array 0
  pub vector_is : (s : Aic) (k : ℕ) → vector_at s k ≡ get_or s.vector k 0
  -- protect mode is bit 0 of debug control (02, 9/12; 003, 27.7.5)
  pub protects_is : (s : Aic) → protects s ≡ bit s.debug 0
  -- every step keeps a sound record sound, and every array at its length: no step leaves a remembered level behind the last entry's
  -- (01, AIC, A sound record; 02, 9/12)
  pub step_sound : (s : Aic) (x : Step) → Shaped s → sound s ≡ true → sound (step s x).aic ≡ true
  pub step_shaped : (s : Aic) (x : Step) → Shaped s → Shaped (step s x).aic
  -- a refused step answers its number, the value 0 and the same record (01, Numbers)
  pub refused_same : (s : Aic) (x : Step) → (step s x).refusal ≢ 0 → step s x ≡ refused s (step s x).refusal
  -- writes and line steps answer the value 0 (01, Numbers)
  pub write_value : (s : Aic) (o v : ℕ) → (write s o v).value ≡ 0
  pub line_value : (s : Aic) (k l : ℕ) → (line s k l).value ≡ 0
  -- each number is given exactly when the table says (01, Numbers)
  pub read_numbers : (s : Aic) (o : ℕ) → ReadTable (sound s) o (access o) (read s o).refusal
  pub write_numbers : (s : Aic) (o v : ℕ) → WriteTable (sound s) o (access o) 0 (write s o v).refusal
  pub line_numbers : (s : Aic) (k l : ℕ) → LineTable (sound s) 32 k l (line s k l).refusal
  -- no value is refused, and 5 is never given (02, 9/12)
  pub never_five : (s : Aic) (x : Step) → (step s x).refusal ≢ 5
  -- the map, the plain reads and the writes, register by register (01, AIC, Map; 003, table 27-2)
  pub map : MapTable
  pub reads : (s : Aic) → sound s ≡ true → Reads s
  pub writes : (s : Aic) (v : ℕ) → sound s ≡ true → Writes s v
  -- outside protect mode a read of IVR starts the candidate ahead of all others, source k: it answers k's vector, opens a handler of k at the
  -- priority that k has now, and clears k's memory, and no other, if k is edge-triggered (01, AIC, Normal side; 003, 27.7.1.3, 27.7.3.1 and 27.7.3.4)
  pub vector_read : (s : Aic) (k : ℕ) → sound s ≡ true → protects s ≡ false → k < 32 → candidate s k ≡ true → AheadOfOthers s k
      → Sets (read s 0x100) (vector_at s k) s.memory
      (λ w. with_handlers (with_memory s w) (set s.source s.depth k) (set s.level s.depth (priority s k)) (s.depth + 1))
      (λ j. bit s.memory j && not (eqb j k && edge s k))
  -- without a candidate, and with fewer than eight entries open, it answers SPU and opens a mark: one entry more, of source 0, with the level of
  -- the last entry, or no level if there is none; all else is as it was (02, 3/12; 003, 27.7.6)
  pub vector_spurious : (s : Aic) → sound s ≡ true → protects s ≡ false → s.depth < 8 → ((k : ℕ) → k < 32 → candidate s k ≡ false)
      → read s 0x100
      ≡ answered (with_handlers s (set s.source s.depth 0) (set s.level s.depth (level_below s.level s.depth)) (s.depth + 1)) s.spurious
  -- with eight entries open it answers SPU and changes nothing, whatever is pending (02, 3/12)
  pub vector_full : (s : Aic) → sound s ≡ true → protects s ≡ false → 8 ≤ s.depth → read s 0x100 ≡ answered s s.spurious
  -- in protect mode it answers the same, and all that it does is to remember: the candidate ahead of all others, with its vector and its
  -- priority now, or that there is none (02, 9/12; 003, 27.7.5)
  pub look_source : (s : Aic) (k : ℕ) → sound s ≡ true → protects s ≡ true → k < 32 → candidate s k ≡ true → AheadOfOthers s k
      → read s 0x100 ≡ answered (with_seen s (record { what = 1; source = k; level = priority s k; vector = vector_at s k })) (vector_at s k)
  pub look_none : (s : Aic) → sound s ≡ true → protects s ≡ true → ((k : ℕ) → k < 32 → candidate s k ≡ false)
      → read s 0x100 ≡ answered (with_seen s (record { what = 2; source = 0; level = 0; vector = 0 })) s.spurious
  -- whatever was remembered before it is replaced (02, 9/12)
  pub look_again : (s : Aic) (n : Seen) → sound s ≡ true → sound (with_seen s n) ≡ true → protects s ≡ true → read (with_seen s n) 0x100 ≡ read s 0x100
  -- there a write of IVR, of any value, starts the source that is remembered, at the level that was remembered, whatever has become of the
  -- source since; it clears its memory, and no other, if it is edge-triggered now; and nothing is remembered any more (02, 9/12; 003, 27.7.5)
  pub begin_source : (s : Aic) (v : ℕ) → sound s ≡ true → protects s ≡ true → s.seen.what ≡ 1
      → Sets (write s 0x100 v) 0 s.memory
      (λ w. with_seen (with_handlers (with_memory s w) (set s.source s.depth s.seen.source) (set s.level s.depth s.seen.level) (s.depth + 1)) nothing_seen)
      (λ j. bit s.memory j && not (eqb j s.seen.source && edge s s.seen.source))
  -- where it is remembered that there was none it opens a mark, with the level that the last entry has at this write; with eight entries open
  -- it opens nothing; that is forgotten too (02, 9/12)
  pub begin_none : (s : Aic) (v : ℕ) → sound s ≡ true → protects s ≡ true → s.seen.what ≡ 2 → s.depth < 8
      → write s 0x100 v
      ≡ answered (with_seen (with_handlers s (set s.source s.depth 0) (set s.level s.depth (level_below s.level s.depth)) (s.depth + 1)) nothing_seen) 0
  pub begin_full : (s : Aic) (v : ℕ) → sound s ≡ true → protects s ≡ true → s.seen.what ≡ 2 → 8 ≤ s.depth → write s 0x100 v ≡ answered (with_seen s nothing_seen) 0
  -- with nothing remembered, in the mode or not, it does nothing (02, 9/12)
  pub begin_nothing : (s : Aic) (v : ℕ) → sound s ≡ true → s.seen.what ≡ 0 → write s 0x100 v ≡ answered s 0
  -- a write of debug control that leaves the mode forgets, and one that stays in it does not (02, 9/12)
  pub leave_forgets : (s : Aic) (v : ℕ) → sound s ≡ true → bit v 0 ≡ false → (write s 0x138 v).aic.seen ≡ nothing_seen
  pub stay_keeps : (s : Aic) (v : ℕ) → sound s ≡ true → bit v 0 ≡ true → (write s 0x138 v).aic.seen ≡ s.seen
  -- no other step touches what is remembered (02, 9/12)
  pub seen_kept : (s : Aic) (x : Step) → sound s ≡ true → SeenFree x → (step s x).aic.seen ≡ s.seen
  -- nor depends on it: with anything else remembered each answers the same, ISR, IPR and CISR among them, and does the same; and the outputs
  -- are the same (02, 9/12)
  pub seen_idle : (s : Aic) (n : Seen) (x : Step) → sound s ≡ true → sound (with_seen s n) ≡ true → SeenFree x
      → step (with_seen s n) x ≡ record { refusal = (step s x).refusal; value = (step s x).value; aic = with_seen (step s x).aic n }
  pub seen_outputs : (s : Aic) (n : Seen) → sound s ≡ true → sound (with_seen s n) ≡ true → outputs (with_seen s n) ≡ outputs s
  -- a read of IVR never clears the memory of a forced source (01, Slips; 003, 27.7.4.5)
  pub vector_forced : (s : Aic) (j : ℕ) → j < 32 → bit s.forced j ≡ true → bit (read s 0x100).aic.memory j ≡ bit s.memory j
  -- ISR reads 0 on a mark, whatever lies below it (02, 3/12)
  pub isr_mark : (s : Aic) → sound s ≡ true → s.depth ≢ 0 → source_at s (s.depth - 1) ≡ 0 → read s 0x108 ≡ answered s 0
  -- EOICR closes the last entry, mark or handler: one fewer is open, and each below it is as it was (02, 3/12)
  pub close_last : (s : Aic) (v : ℕ) → sound s ≡ true → s.depth ≢ 0 → ((write s 0x130 v).aic.depth ≡ s.depth - 1)
      × ((i : ℕ) → i < s.depth - 1 → (source_at (write s 0x130 v).aic i ≡ source_at s i) × (level_at (write s 0x130 v).aic i ≡ level_at s i))
  -- so a spurious vector read and the EOICR that ends its handler leave the record as it was (02, 3/12; 003, 27.7.6)
  pub spurious_ended : (s : Aic) (v : ℕ) → Shaped s → sound s ≡ true → protects s ≡ false → s.depth < 8 → ((k : ℕ) → k < 32 → candidate s k ≡ false)
      → write (read s 0x100).aic 0x130 v ≡ answered s 0
  -- a read of FVR with a fast source pending and enabled answers vector 0, whichever source that is; it clears the memory of source 0
  -- alone, and that only if it is edge-triggered and no source is forced (01, AIC, Fast side; 003, 27.7.4.3 and 27.7.4.5)
  pub fast_read : (s : Aic) (k : ℕ) → sound s ≡ true → k < 32 → fast s k ≡ true → pending s k ≡ true → bit s.enabled k ≡ true
      → Sets (read s 0x104) (vector_at s 0) s.memory (with_memory s) (λ j. bit s.memory j && not (eqb j 0 && (edge s 0 && eqb s.forced 0)))
  -- without one it answers SPU (003, 27.8.6) and changes nothing (01, AIC, Fast side)
  pub fast_spurious : (s : Aic) → sound s ≡ true → ((k : ℕ) → k < 32 → fast s k ≡ true → pending s k ≡ true → bit s.enabled k ≡ false)
      → read s 0x104 ≡ answered s s.spurious
  -- where a source is forced, a read of FVR changes nothing at all (01, Slips; 003, 27.7.4.5)
  pub fast_forced : (s : Aic) → s.forced ≢ 0 → (read s 0x104).aic ≡ s
  -- a line step moves its line alone; an edge source that it turns active remembers it, enabled or not (01, AIC, Pending)
  pub line_moves : (s : Aic) (k l : ℕ) → sound s ≡ true → k < 32 → l ≤ 1
      → Sets (line s k l) 0 s.memory (λ w. with_lines (with_memory s w) (with_bit s.lines k (eqb l 1)))
      (λ j. bit s.memory j || (eqb j k && (edge s k && turns s k (eqb l 1))))
  -- a line turns active by a fall where the source is external and of type 0 or 1, by a rise where it is any other (01, AIC, Mode; 003, 27.8.3)
  pub edge_falls : (s : Aic) (k : ℕ) (high : Bool) → bit s.external k ≡ true → kind s k < 2 → turns s k high ≡ (bit s.lines k && not high)
  pub edge_rises : (s : Aic) (k : ℕ) (high : Bool) → (bit s.external k ≡ false) ⊎ (2 ≤ kind s k) → turns s k high ≡ (not (bit s.lines k) && high)
  -- the level that a line has already is no edge
  pub line_repeated : (s : Aic) (k : ℕ) → turns s k (bit s.lines k) ≡ false
  -- the mask stands in the way of no step: with another mask, and in protect mode or not as before, each step answers the same, and does the
  -- same, save that the mask is another, and that debug control and the outputs in CISR show it (01, AIC, DCR; 02, 9/12; 003, 27.7.7)
  pub mask_idle : (s : Aic) (m : ℕ) (x : Step) → sound s ≡ true → m < 4 → bit m 0 ≡ protects s → MaskFree x
      → step (with_debug s m) x ≡ record { refusal = (step s x).refusal; value = (step s x).value; aic = with_debug (step s x).aic m }
  -- the outputs of a sound record, and 12 and nothing else exactly if it is not sound (01, Numbers; AIC)
  pub outputs_sound : (s : Aic) → sound s ≡ true → outputs s ≡ record { refusal = 0; irq = irq s; fiq = fiq s; entries = s.depth }
  pub outputs_unsound : (s : Aic) → sound s ≡ false → outputs s ≡ record { refusal = 12; irq = false; fiq = false; entries = 0 }
