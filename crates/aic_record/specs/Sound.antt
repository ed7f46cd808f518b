-- The rules of a sound record, in the order of 01 (AIC, A sound record); those of the entries are 02's (3/12).
use Rattle.std.specs.Prelude.{ℕ, ◌-◌, Bool, not, ◌&&◌, ◌||◌, List, eqb, ltb, leb, get_or}
use Rattle.words.specs.Choice.{pick}
use Rattle.words.specs.Counting.{all_below}
use Rattle.words.specs.Word.{bit}
use Rattle.aic_record.specs.declared.Aic.{Aic}
use Rattle.aic_record.specs.declared.Seen.{Seen}
use Rattle.aic_record.specs.Mode.{mode_at, kept_mode, edge}

-- the source and the level of the entry in slot i
abbrev pub source_at : Aic → ℕ → ℕ
source_at s i = get_or s.source i 0

abbrev pub level_at : Aic → ℕ → ℕ
level_at s i = get_or s.level i 0

-- what stands for no level (02, 3/12)
abbrev pub no_level : ℕ
no_level = 255

-- the level of the entry below slot i, or no level if there is none (02, 3/12)
unfoldable pub level_below : List ℕ → ℕ → ℕ
level_below level i = pick (eqb i 0) no_level (get_or level (i - 1) 0)

-- p is strictly above level l, if that is one
unfoldable pub over : ℕ → ℕ → Bool
over l p = eqb l no_level || ltb l p

-- an entry over one of the level `below`: a mark, of source 0, has that level; a handler is of a source from 1 to 31, at a level of at most 7 that
-- is above that one (02, 3/12; 01, AIC, A sound record)
unfoldable pub entry_fits : ℕ → ℕ → ℕ → Bool
entry_fits below source level = pick (eqb source 0) (eqb level below) (leb source 31 && leb level 7 && over below level)

-- the entry in slot i
unfoldable pub entry_sound : Aic → ℕ → Bool
entry_sound s i = entry_fits (level_below s.level i) (source_at s i) (level_at s i)

-- an unused slot: 0
unfoldable pub free_sound : Aic → ℕ → Bool
free_sound s i = eqb (source_at s i) 0 && eqb (level_at s i) 0

-- at most eight entries, each slot used or unused as it should be
unfoldable pub entries_sound : Aic → Bool
entries_sound s = leb s.depth 8 && all_below 8 (λ i. pick (ltb i s.depth) (entry_sound s i) (free_sound s i))

-- no memory on a level source
unfoldable pub memory_sound : Aic → Bool
memory_sound s = all_below 32 (λ k. edge s k || not (bit s.memory k))

-- no dropped bit of a mode or of the debug control is stored
unfoldable pub stored_sound : Aic → Bool
stored_sound s = all_below 32 (λ k. eqb (kept_mode (mode_at s k)) (mode_at s k)) && ltb s.debug 4

-- bit 0 of debug control: protect mode (02, 9/12)
abbrev pub protects : Aic → Bool
protects s = bit s.debug 0

-- what is remembered, over a last entry of the level `below` with `depth` entries open: a source only in protect mode, from 1 to 31, at a level of
-- at most 7 that is above the last entry's, with room for its handler; else all is 0, and "none" only in protect mode (02, 9/12)
unfoldable pub seen_fits : Bool → Seen → ℕ → ℕ → Bool
seen_fits on n below depth =
    pick (eqb n.what 1)
    (on && leb 1 n.source && leb n.source 31 && leb n.level 7 && ltb depth 8 && over below n.level)
    (eqb n.source 0 && eqb n.level 0 && eqb n.vector 0 && (eqb n.what 0 || (on && eqb n.what 2)))

-- that over the last entry of the record
unfoldable pub seen_sound : Aic → Bool
seen_sound s = seen_fits (protects s) s.seen (level_below s.level s.depth) s.depth

-- the whole: with source 0 not forced
unfoldable pub sound : Aic → Bool
sound s = entries_sound s && memory_sound s && stored_sound s && not (bit s.forced 0) && seen_sound s
