-- What the check of a record asks of each slot and of each mode, as its two passes take them; the rules themselves are in Sound.
use Rattle.std.specs.Prelude.{ℕ, ◌+◌, Bool, not, ◌&&◌, ◌||◌, List, eqb, ltb, get_or}
use Rattle.words.specs.Choice.{pick}
use Rattle.words.specs.Word.{bit}
use Rattle.aic_record.specs.Mode.{kept_mode, edge_of}
use Rattle.aic_record.specs.Sound.{no_level, level_below, entry_fits}

-- the least priority above level l
unfoldable pub floor_over : ℕ → ℕ
floor_over l = pick (eqb l no_level) 0 (l + 1)

-- slot i, where `depth` slots are used
unfoldable pub slot_sound : List ℕ → List ℕ → ℕ → ℕ → Bool
slot_sound source level depth i =
    pick (ltb i depth)
    (entry_fits (level_below level i) (get_or source i 0) (get_or level i 0))
    (eqb (get_or source i 0) 0 && eqb (get_or level i 0) 0)

-- the mode and the memory of source k
unfoldable pub mode_sound : List ℕ → ℕ → ℕ → Bool
mode_sound mode memory k = (edge_of (get_or mode k 0) || not (bit memory k)) && eqb (kept_mode (get_or mode k 0)) (get_or mode k 0)
