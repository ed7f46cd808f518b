-- What is promised of the sources: when the outputs are active, which source is ahead, and that none may start over eight entries.
use Rattle.std.specs.Prelude.{ℕ, ◌^◌, ◌<◌, ◌≤◌, ◌≡◌, true, false, not, ◌↔◌, ◌≢◌, ◌⊎◌}
use Rattle.words.specs.Word.{bit}
use Rattle.aic_record.specs.declared.Aic.{Aic}
use Rattle.aic_record.specs.Mode.{priority, kind, edge}
use Rattle.aic_record.specs.Sound.{level_below}
use Rattle.aic_record.specs.Promises.{Over}
use Rattle.aic_sources.specs.Pending.{active, pending, pending_word}
use Rattle.aic_sources.specs.Fast.{fast, fiq}
use Rattle.aic_sources.specs.Normal.{candidate, ahead, chosen, irq}

-- there is a candidate
abbrev pub SomeCandidate : Aic → Type 0
SomeCandidate s = (k : ℕ) × (k < 32) × (candidate s k ≡ true)

-- source k is ahead of every other candidate
abbrev pub AheadOfOthers : Aic → ℕ → Type 0
AheadOfOthers s k = (j : ℕ) → j < 32 → candidate s j ≡ true → j ≢ k → ahead s k j ≡ true

pub record Promises : Type 0 where
  -- an edge source is pending while its memory is set, a level source while its line is active (01, AIC, Pending; 003, 27.7.1.1 and 27.7.1.3)
  pub edge_pending : (s : Aic) (k : ℕ) → edge s k ≡ true → pending s k ≡ bit s.memory k
  pub level_pending : (s : Aic) (k : ℕ) → edge s k ≡ false → pending s k ≡ active s k
  -- low is the active level of an external source of type 0 or 1, high that of any other (01, AIC, Mode; 003, 27.8.3)
  pub low_active : (s : Aic) (k : ℕ) → bit s.external k ≡ true → kind s k < 2 → active s k ≡ not (bit s.lines k)
  pub high_active : (s : Aic) (k : ℕ) → (bit s.external k ≡ false) ⊎ (2 ≤ kind s k) → active s k ≡ bit s.lines k
  -- IRQ is active exactly if bit 1 of debug control does not mask it and there is a candidate (01, AIC, Normal side; 003, 27.7.3 and 27.7.7)
  pub irq_is : (s : Aic) → (irq s ≡ true) ↔ ((bit s.debug 1 ≡ false) × SomeCandidate s)
  -- FIQ is active exactly if that bit does not mask it and there is a fast source, pending and enabled (01, AIC, Fast side; 003, 27.7.4 and 27.7.7)
  pub fiq_is : (s : Aic) → (fiq s ≡ true)
      ↔ ((bit s.debug 1 ≡ false) × ((k : ℕ) × (k < 32) × (fast s k ≡ true) × (pending s k ≡ true) × (bit s.enabled k ≡ true)))
  -- a source is fast exactly if it is source 0 or forced (01, AIC, Fast side; 003, 27.7.4.1 and 27.7.4.5)
  pub fast_is : (s : Aic) (k : ℕ) → (fast s k ≡ true) ↔ ((k ≡ 0) ⊎ (bit s.forced k ≡ true))
  -- a source is a candidate exactly if it is pending, enabled and not fast, fewer than eight entries are open, and its priority is strictly above
  -- the level of the last one, if that has a level (01, AIC, Normal side; 02, 3/12; 003, 27.7.3.1)
  pub candidate_is : (s : Aic) (k : ℕ) → (candidate s k ≡ true)
      ↔ ((pending s k ≡ true) × (bit s.enabled k ≡ true) × (fast s k ≡ false)
      × (s.depth < 8) × Over (level_below s.level s.depth) (priority s k))
  -- where there is a candidate the chosen source is one, and is ahead of every other (01, AIC, Normal side; 003, 27.7.3.1)
  pub chosen_is : (s : Aic) → SomeCandidate s → (chosen s < 32) × (candidate s (chosen s) ≡ true) × AheadOfOthers s (chosen s)
  -- it is the only one
  pub chosen_one : (s : Aic) (k : ℕ) → k < 32 → candidate s k ≡ true → AheadOfOthers s k → chosen s ≡ k
  -- without a candidate it is 32, which is no source
  pub chosen_none : (s : Aic) → ((k : ℕ) → k < 32 → candidate s k ≡ false) → chosen s ≡ 32
  -- a source is ahead of another exactly if its priority is higher, or equal and its number lower (01, AIC, Normal side; 003, 27.7.3.1)
  pub ahead_is : (s : Aic) (a b : ℕ) → (ahead s a b ≡ true) ↔ ((priority s b < priority s a) ⊎ ((priority s a ≡ priority s b) × (a < b)))
  -- ahead is a strict order: no source is ahead of itself, and what is ahead of one that is ahead of a third is ahead of the third (01, AIC, Normal side)
  pub ahead_never : (s : Aic) (a : ℕ) → ahead s a a ≡ false
  pub ahead_through : (s : Aic) (a b c : ℕ) → ahead s a b ≡ true → ahead s b c ≡ true → ahead s a c ≡ true
  -- it compares any two different sources
  pub ahead_either : (s : Aic) (a b : ℕ) → a ≢ b → (ahead s a b ≡ true) ⊎ (ahead s b a ≡ true)
  -- with eight entries open no source is a candidate, whatever else the record holds (02, 3/12)
  pub room : (s : Aic) → 8 ≤ s.depth → (k : ℕ) → candidate s k ≡ false
  -- each bit of IPR says whether its source is pending, enabled or not, and it has no other bit (01, AIC, Pending; 003, 27.8.8)
  pub ipr_bit : (s : Aic) (k : ℕ) → k < 32 → bit (pending_word s) k ≡ pending s k
  pub ipr_below : (s : Aic) → pending_word s < 2 ^ 32
