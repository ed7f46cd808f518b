-- What is promised of the record: the record after reset, the fields of a mode, each part put anew, and the rules one by one.
use Rattle.std.specs.Prelude.{ℕ, ◌+◌, ◌/◌, ◌%◌, ◌≤◌, ◌<◌, ◌≡◌, Bool, true, false, List, ◌↔◌, ◌≢◌, ◌⊎◌, length, get_or}
use Rattle.words.specs.Word.{bit, both}
use Rattle.aic_record.specs.declared.Aic.{Aic}
use Rattle.aic_record.specs.declared.Seen.{Seen}
use Rattle.aic_record.specs.Record.{with_lines, with_enabled, with_memory, with_forced, with_spurious, with_debug, with_mode, with_vector, with_handlers, with_seen, nothing_seen, reset}
use Rattle.aic_record.specs.Mode.{priority_of, type_of, kept_mode, mode_at, priority, kind, edge}
use Rattle.aic_record.specs.Sound.{source_at, level_at, level_below, sound}

-- the arrays of a record have the lengths that the language gives them; a list in a definition has any length
abbrev pub Shaped : Aic → Type 0
Shaped s = (length s.mode ≡ 32) × (length s.vector ≡ 32) × (length s.source ≡ 8) × (length s.level ≡ 8)

-- p is strictly above level l, if that is one: 255 stands for no level (02, 3/12)
abbrev pub Over : ℕ → ℕ → Type 0
Over l p = (l ≡ 255) ⊎ (l < p)

-- what may be remembered, in protect mode or not, over a last entry of the level `below` with `depth` entries open (02, 9/12)
pub record SeenFits (on : Bool) (n : Seen) (below depth : ℕ) : Type 0 where
  -- nothing (0), a source (1) or "none" (2)
  pub few : n.what ≤ 2
  -- outside protect mode nothing
  pub mode : n.what ≢ 0 → on ≡ true
  -- without a source all is 0
  pub bare : n.what ≢ 1 → (n.source ≡ 0) × (n.level ≡ 0) × (n.vector ≡ 0)
  -- a source is one of those from 1 to 31
  pub source : n.what ≡ 1 → (1 ≤ n.source) × (n.source ≤ 31)
  -- its level is at most 7 and strictly above that of the last entry, if that has one
  pub level : n.what ≡ 1 → (n.level ≤ 7) × Over below n.level
  -- and there is room for its handler
  pub room : n.what ≡ 1 → depth < 8

-- the rules of a sound record, one by one (01, AIC, A sound record; 02, 3/12)
pub record Rules (s : Aic) : Type 0 where
  -- at most eight entries are open
  pub entries : s.depth ≤ 8
  -- each is a mark, of source 0, or a handler of one of the sources 1 to 31
  pub sources : (i : ℕ) → i < s.depth → source_at s i ≤ 31
  -- a mark has the level of the entry below it, or no level if there is none
  pub marks : (i : ℕ) → i < s.depth → source_at s i ≡ 0 → level_at s i ≡ level_below s.level i
  -- a handler is at a level of at most 7
  pub levels : (i : ℕ) → i < s.depth → source_at s i ≢ 0 → level_at s i ≤ 7
  -- and that is strictly above the level of the entry below it, if that has one
  pub above : (i : ℕ) → i < s.depth → source_at s i ≢ 0 → Over (level_below s.level i) (level_at s i)
  -- an unused slot holds 0
  pub unused : (i : ℕ) → s.depth ≤ i → i < 8 → (source_at s i ≡ 0) × (level_at s i ≡ 0)
  -- a level source remembers nothing
  pub memory : (k : ℕ) → k < 32 → edge s k ≡ false → bit s.memory k ≡ false
  -- a stored mode has none of the bits that a write drops
  pub modes : (k : ℕ) → k < 32 → kept_mode (mode_at s k) ≡ mode_at s k
  -- of debug control no bit but the mask and protect mode is stored (02, 9/12)
  pub debug : s.debug < 4
  -- what is remembered fits; protect mode is bit 0 of debug control (02, 9/12)
  pub seen : SeenFits (bit s.debug 0) s.seen (level_below s.level s.depth) s.depth
  -- source 0 is not forced
  pub forced : bit s.forced 0 ≡ false

-- the two words of the configuration each in its field, all registers 0, no edge remembered, no entry open, nothing remembered (01, AIC, Configuration)
pub record Fresh (external lines : ℕ) (s : Aic) : Type 0 where
  pub configured : (s.external ≡ external) × (s.lines ≡ lines)
  pub words : (s.enabled ≡ 0) × (s.memory ≡ 0) × (s.forced ≡ 0) × (s.spurious ≡ 0) × (s.debug ≡ 0)
  pub modes : (k : ℕ) → get_or s.mode k 0 ≡ 0
  pub vectors : (k : ℕ) → get_or s.vector k 0 ≡ 0
  pub slots : (i : ℕ) → (get_or s.source i 0 ≡ 0) × (get_or s.level i 0 ≡ 0)
  pub none_open : s.depth ≡ 0
  pub nothing : s.seen ≡ nothing_seen

-- the record with one of its parts put anew: each other part is as it was
pub record Setters (s : Aic) : Type 0 where
  pub lines : (w : ℕ) → with_lines s w
      ≡ record { external = s.external; lines = w; enabled = s.enabled; memory = s.memory; forced = s.forced; spurious = s.spurious; debug = s.debug; mode = s.mode; vector = s.vector; source = s.source; level = s.level; depth = s.depth; seen = s.seen }
  pub enabled : (w : ℕ) → with_enabled s w
      ≡ record { external = s.external; lines = s.lines; enabled = w; memory = s.memory; forced = s.forced; spurious = s.spurious; debug = s.debug; mode = s.mode; vector = s.vector; source = s.source; level = s.level; depth = s.depth; seen = s.seen }
  pub memory : (w : ℕ) → with_memory s w
      ≡ record { external = s.external; lines = s.lines; enabled = s.enabled; memory = w; forced = s.forced; spurious = s.spurious; debug = s.debug; mode = s.mode; vector = s.vector; source = s.source; level = s.level; depth = s.depth; seen = s.seen }
  pub forced : (w : ℕ) → with_forced s w
      ≡ record { external = s.external; lines = s.lines; enabled = s.enabled; memory = s.memory; forced = w; spurious = s.spurious; debug = s.debug; mode = s.mode; vector = s.vector; source = s.source; level = s.level; depth = s.depth; seen = s.seen }
  pub spurious : (w : ℕ) → with_spurious s w
      ≡ record { external = s.external; lines = s.lines; enabled = s.enabled; memory = s.memory; forced = s.forced; spurious = w; debug = s.debug; mode = s.mode; vector = s.vector; source = s.source; level = s.level; depth = s.depth; seen = s.seen }
  pub debug : (w : ℕ) → with_debug s w
      ≡ record { external = s.external; lines = s.lines; enabled = s.enabled; memory = s.memory; forced = s.forced; spurious = s.spurious; debug = w; mode = s.mode; vector = s.vector; source = s.source; level = s.level; depth = s.depth; seen = s.seen }
  pub mode : (l : List ℕ) → with_mode s l
      ≡ record { external = s.external; lines = s.lines; enabled = s.enabled; memory = s.memory; forced = s.forced; spurious = s.spurious; debug = s.debug; mode = l; vector = s.vector; source = s.source; level = s.level; depth = s.depth; seen = s.seen }
  pub vector : (l : List ℕ) → with_vector s l
      ≡ record { external = s.external; lines = s.lines; enabled = s.enabled; memory = s.memory; forced = s.forced; spurious = s.spurious; debug = s.debug; mode = s.mode; vector = l; source = s.source; level = s.level; depth = s.depth; seen = s.seen }
  pub handlers : (sources levels : List ℕ) (n : ℕ) → with_handlers s sources levels n
      ≡ record { external = s.external; lines = s.lines; enabled = s.enabled; memory = s.memory; forced = s.forced; spurious = s.spurious; debug = s.debug; mode = s.mode; vector = s.vector; source = sources; level = levels; depth = n; seen = s.seen }
  pub seen : (n : Seen) → with_seen s n
      ≡ record { external = s.external; lines = s.lines; enabled = s.enabled; memory = s.memory; forced = s.forced; spurious = s.spurious; debug = s.debug; mode = s.mode; vector = s.vector; source = s.source; level = s.level; depth = s.depth; seen = n }

pub record Promises : Type 0 where
  -- reset, field by field (01, AIC, Configuration)
  pub reset_is : (external lines : ℕ) → Fresh external lines (reset external lines)
  -- nothing remembered: all is 0 (02, 9/12)
  pub nothing_is : nothing_seen ≡ record { what = 0; source = 0; level = 0; vector = 0 }
  -- each part put anew, field by field
  pub setters : (s : Aic) → Setters s
  -- the mode of source k, and the source and the level in slot i of the entries; past the end of an array 0
  pub mode_is : (s : Aic) (k : ℕ) → mode_at s k ≡ get_or s.mode k 0
  pub slot_is : (s : Aic) (i : ℕ) → (source_at s i ≡ get_or s.source i 0) × (level_at s i ≡ get_or s.level i 0)
  -- the level below slot 0 is none, and that below slot i + 1 is the level in slot i (02, 3/12)
  pub below_is : (level : List ℕ) → (level_below level 0 ≡ 255) × ((i : ℕ) → level_below level (i + 1) ≡ get_or level i 0)
  -- of a mode bits 2:0 are the priority and bits 6:5 the type (01, AIC, Mode; 003, 27.8.3)
  pub fields_are : (v : ℕ) → (priority_of v ≡ v % 8) × (type_of v ≡ v / 32 % 4)
  -- a source has those of its stored mode
  pub priority_is : (s : Aic) (k : ℕ) → priority s k ≡ get_or s.mode k 0 % 8
  pub kind_is : (s : Aic) (k : ℕ) → kind s k ≡ get_or s.mode k 0 / 32 % 4
  -- a written mode is stored with these five bits alone, 2:0 and 6:5, which are the bits of 0x67 (01, AIC, Mode)
  pub kept_is : (v : ℕ) → kept_mode v ≡ both v 0x67
  -- a source is edge-triggered exactly if its type is 1 or 3 (01, AIC, Mode; 003, 27.8.3)
  pub edge_is : (s : Aic) (k : ℕ) → (edge s k ≡ true) ↔ ((kind s k ≡ 1) ⊎ (kind s k ≡ 3))
  -- a mode that is stored has the priority and the type that were written (01, AIC, Mode; 003, 27.8.3)
  pub kept_fields : (v : ℕ) → (priority_of (kept_mode v) ≡ priority_of v) × (type_of (kept_mode v) ≡ type_of v)
  -- a record is sound exactly if it keeps each rule (01, AIC, A sound record)
  pub sound_is : (s : Aic) → (sound s ≡ true) ↔ Rules s
  -- so of any two handlers, whatever marks are between, the one opened later is at the higher level (02, 3/12)
  pub rising : (s : Aic) → sound s ≡ true → (i j : ℕ) → i < j → j < s.depth → source_at s i ≢ 0 → source_at s j ≢ 0 → level_at s i < level_at s j
  -- reset is sound, whichever sources are external and wherever the lines stand (01, AIC, Configuration)
  pub reset_sound : (external lines : ℕ) → sound (reset external lines) ≡ true
  -- its arrays have their lengths
  pub reset_shaped : (external lines : ℕ) → Shaped (reset external lines)
