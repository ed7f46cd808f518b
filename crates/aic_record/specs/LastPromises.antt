-- What is promised of the last entry: it is the one in the last used slot, and of a sound record its numbers are small.
use Rattle.std.specs.Prelude.{ℕ, suc, ◌≤◌, ◌≡◌, true, get_or}
use Rattle.aic_record.specs.declared.Aic.{Aic}
use Rattle.aic_record.specs.Sound.{sound}
use Rattle.aic_record.specs.Last.{last_source, last_level}

pub record Promises : Type 0 where
  -- with no entry open it is of source 0 and of no level, 255 (02, 3/12)
  pub none : (s : Aic) → s.depth ≡ 0 → (last_source s ≡ 0) × (last_level s ≡ 255)
  -- else it stands in the last used slot (01, AIC, Normal side)
  pub last : (s : Aic) (n : ℕ) → s.depth ≡ suc n → (last_source s ≡ get_or s.source n 0) × (last_level s ≡ get_or s.level n 0)
  -- a source is one of 0 to 31, a level at most 255 (01, AIC, A sound record)
  pub small : (s : Aic) → sound s ≡ true → (last_source s ≤ 31) × (last_level s ≤ 255)
