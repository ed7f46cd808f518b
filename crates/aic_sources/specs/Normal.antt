-- The normal side and its output (01, AIC, Normal side; 003, 27.7.3).
use Rattle.std.specs.Prelude.{ℕ, Bool, not, ◌&&◌, ◌||◌, eqb, ltb}
use Rattle.words.specs.Counting.{any_below, all_below, lowest_below}
use Rattle.aic_record.specs.declared.Aic.{Aic}
use Rattle.aic_record.specs.Mode.{priority}
use Rattle.aic_record.specs.Sound.{level_below, over}
use Rattle.aic_sources.specs.Pending.{asking}
use Rattle.aic_sources.specs.Fast.{fast, masked}

-- pending, enabled and not fast (003, 27.7.3.1)
unfoldable pub waiting : Aic → ℕ → Bool
waiting s k = asking s k && not (fast s k)

-- fewer than eight entries are open, and a priority is strictly above the level of the last one, if it has one (02, 3/12; 003, 27.7.3.1)
unfoldable pub above : Aic → ℕ → Bool
above s p = ltb s.depth 8 && over (level_below s.level s.depth) p

-- a candidate waits, and its priority may start over the open entries (01, AIC, Normal side; 003, 27.7.3.1)
unfoldable pub candidate : Aic → ℕ → Bool
candidate s k = waiting s k && above s (priority s k)

-- a higher priority, or an equal one and a lower number (003, 27.7.3.1)
unfoldable pub ahead : Aic → ℕ → ℕ → Bool
ahead s a b = ltb (priority s b) (priority s a) || (eqb (priority s a) (priority s b) && ltb a b)

-- source k is a candidate, and is ahead of every other candidate (01, AIC, Normal side; 003, 27.7.3.1 and 27.7.3.4)
unfoldable pub foremost : Aic → ℕ → Bool
foremost s k = candidate s k && all_below 32 (λ j. not (candidate s j) || (eqb j k || ahead s k j))

-- some source is a candidate (003, 27.7.3.1)
unfoldable pub candidates : Aic → Bool
candidates s = any_below 32 (candidate s)

-- the candidate that is ahead of all others, 32 where there is none
unfoldable pub chosen : Aic → ℕ
chosen s = lowest_below 32 (foremost s)

-- IRQ is active if nothing masks it and some source is a candidate
unfoldable pub irq : Aic → Bool
irq s = not (masked s) && candidates s
