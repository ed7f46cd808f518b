-- What the search for a source works on: words of sources, the table of modes, and the least priority that may start.
use Rattle.std.specs.Prelude.{ℕ, ◌+◌, ◌*◌, ◌≤◌, ◌<◌, ◌≡◌, Bool, true, false, ◌&&◌, List, ◌⊎◌, ltb, leb, get_or}
use Rattle.words.specs.Choice.{pick}
use Rattle.words.specs.Word.{bit, word_of}
use Rattle.aic_record.specs.declared.Aic.{Aic}
use Rattle.aic_record.specs.Sound.{level_below}
use Rattle.aic_record.specs.Passes.{floor_over}
use Rattle.aic_record.specs.Mode.{priority_of}

-- bit j of each of the 32 modes
unfoldable pub mode_word : List ℕ → ℕ → ℕ
mode_word mode j = word_of 32 (λ k. bit (get_or mode k 0) j)

-- the priority of source k
abbrev pub rank : List ℕ → ℕ → ℕ
rank mode k = priority_of (get_or mode k 0)

-- source k waits, and its priority is no lower than the least that may start
unfoldable pub may_start : ℕ → List ℕ → ℕ → ℕ → Bool
may_start waiting mode floor k = bit waiting k && leb floor (rank mode k)

-- the least priority that may start: with eight entries open 8, which no source has
unfoldable pub least_of : Aic → ℕ
least_of s = pick (ltb s.depth 8) (floor_over (level_below s.level s.depth)) 8

-- none of the sources below n may start, and best is 32
pub record Nobody (waiting : ℕ) (mode : List ℕ) (floor n best : ℕ) : Type 0 where
  pub none : best ≡ 32
  pub each : (j : ℕ) → j < n → may_start waiting mode floor j ≡ false

-- best is one of the sources below n, may start, and no other of them that may is ahead of it: of 32 sources a higher
-- priority counts for more than any number
pub record Leader (waiting : ℕ) (mode : List ℕ) (floor n best : ℕ) : Type 0 where
  pub within : best < n
  pub may : may_start waiting mode floor best ≡ true
  pub each : (j : ℕ) → j < n → may_start waiting mode floor j ≡ true → rank mode j * 32 + best ≤ rank mode best * 32 + j

-- what the search of the sources below n has found
abbrev pub Found : ℕ → List ℕ → ℕ → ℕ → ℕ → Type 0
Found waiting mode floor n best = Nobody waiting mode floor n best ⊎ Leader waiting mode floor n best
