-- The last open entry of an AIC, as a wave and a picture show it (01, AIC, Normal side; 02, 3/12).
use Rattle.std.specs.Prelude.{ℕ, ◌-◌, eqb}
use Rattle.words.specs.Choice.{pick}
use Rattle.aic_record.specs.declared.Aic.{Aic}
use Rattle.aic_record.specs.Sound.{source_at, level_below}

-- its source; a mark is of source 0, and so is none
unfoldable pub last_source : Aic → ℕ
last_source s = pick (eqb s.depth 0) 0 (source_at s (s.depth - 1))

-- its level, 255 where it has none and where there is none
unfoldable pub last_level : Aic → ℕ
last_level s = level_below s.level s.depth
