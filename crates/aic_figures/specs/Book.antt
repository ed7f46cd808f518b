-- The figures of the 32 sources in a book of words (02, 11/12): a wait is the number of handlers started when it began, and is settled where it ends.
use Rattle.std.specs.Prelude.{ℕ, ◌+◌, ◌-◌, ◌<◌, ◌≤◌, max, ◌≡◌, true, not, ◌&&◌, ◌||◌, List, ◌⊎◌, eqb, ltb, length, get_or}
use Rattle.words.specs.Choice.{pick}
use Rattle.words.specs.Word.{bit}
use Rattle.aic_record.specs.declared.Aic.{Aic}
use Rattle.aic_waits.specs.Figures.{is_open, entries_now}
use Rattle.aic_waits.specs.Following.{Figures, capped}

-- the figures f of a run of n steps that ends in the record s stand in the book: word 0 those that are pending, enabled and not fast, word 1 those that
-- wait, word 2 the handlers started; for each source from 32 on the handlers started, from 64 those started when its wait began, from 96 the most of the
-- waits that have ended, from 128 the most entries
pub record Kept (f : Figures) (s : Aic) (n : ℕ) (book : List ℕ) : Type 0 where
  pub size : length book ≡ 160
  pub whole : (length f.started ≡ 32) × (length f.wait ≡ 32) × (length f.waited ≡ 32) × (length f.entries ≡ 32)
  pub asks : (i : ℕ) → i < 32 → bit (get_or book 0 0) i ≡ ltb 0 (get_or f.wait i 0)
  pub waits : (i : ℕ) → i < 32 → bit (get_or book 1 0) i ≡ ltb 1 (get_or f.wait i 0)
  pub few : get_or book 2 0 ≤ n
  pub started : (i : ℕ) → i < 32 → get_or book (32 + i) 0 ≡ get_or f.started i 0
  pub fewer : (i : ℕ) → i < 32 → get_or f.started i 0 ≤ n
  pub began : (i : ℕ) → i < 32 → 1 < get_or f.wait i 0 → get_or book (64 + i) 0 + get_or f.wait i 0 ≡ get_or book 2 0 + 2
  pub waited : (i : ℕ) → i < 32 → get_or f.waited i 0 ≡ max (get_or book (96 + i) 0) (get_or f.wait i 0 - 2)
  pub entries : (i : ℕ) → i < 32 → get_or book (128 + i) 0 ≡ get_or f.entries i 0
  -- no source that is open has seen fewer entries than are open now
  pub deep : (i : ℕ) → i < 32 → is_open s i ≡ true → s.depth ≤ get_or f.entries i 0

-- 32 words from a place on are anew, the ith of them g i, and all others are as they were
pub record Put (at : ℕ) (g : ℕ → ℕ) (old new : List ℕ) : Type 0 where
  pub size : length new ≡ length old
  pub inside : (i : ℕ) → i < 32 → get_or new (at + i) 0 ≡ g i
  pub outside : (k : ℕ) → (k < at) ⊎ (at + 32 ≤ k) → get_or new k 0 ≡ get_or old k 0

-- the most of the waits that have ended, where that of source i ends too: the handlers started since it began
abbrev pub settled_at : List ℕ → ℕ → ℕ
settled_at book i = max (get_or book (96 + i) 0) (get_or book 2 0 - get_or book (64 + i) 0)

-- what a step does to the book that leaves the record t, starts source `by`, and after which these are pending, enabled and not fast
pub record Moved (by asks : ℕ) (t : Aic) (old new : List ℕ) : Type 0 where
  pub size : length new ≡ length old
  pub asked : get_or new 0 0 ≡ asks
  pub waits : (i : ℕ) → i < 32 → bit (get_or new 1 0) i ≡ ((bit asks i && not (eqb i by)) && (bit (get_or old 1 0) i || not (bit (get_or old 0 0) i)))
  pub starts : get_or new 2 0 ≡ pick (ltb by 32) (capped (get_or old 2 0 + 1)) (get_or old 2 0)
  pub started : (i : ℕ) → i < 32 → get_or new (32 + i) 0 ≡ pick (eqb i by) (capped (get_or old (32 + i) 0 + 1)) (get_or old (32 + i) 0)
  pub began : (i : ℕ) → i < 32 → get_or new (64 + i) 0 ≡ pick (bit (get_or new 1 0) i && not (bit (get_or old 1 0) i)) (get_or new 2 0) (get_or old (64 + i) 0)
  pub waited : (i : ℕ) → i < 32 → get_or new (96 + i) 0 ≡ pick (bit (get_or old 1 0) i && not (bit (get_or new 1 0) i)) (settled_at old i) (get_or old (96 + i) 0)
  pub entries : (i : ℕ) → i < 32 → get_or new (128 + i) 0 ≡ max (get_or old (128 + i) 0) (entries_now t i)
