-- The waiting sources by level, which levels have any, and the source to start (02, 5/12).
use Rattle.std.specs.Prelude.{ℕ, Bool, not, ◌&&◌, [], ◌∷◌, eqb, get_or}
use Rattle.words.specs.Choice.{pick}
use Rattle.words.specs.Counting.{upto, all_below, lowest_below}
use Rattle.words.specs.Word.{bit, word_of}
use Rattle.aic_record.specs.declared.Aic.{Aic}
use Rattle.aic_record.specs.Mode.{priority}
use Rattle.aic_record.specs.Sound.{no_level}
use Rattle.aic_sources.specs.Normal.{waiting, above}
use Rattle.aic_levels.specs.declared.Levels.{Levels}

-- the word of level p: the sources of that priority that are pending, enabled and not fast (02, 5/12)
unfoldable pub level_word : Aic → ℕ → ℕ
level_word s p = word_of 32 (λ k. waiting s k && eqb (priority s k) p)

-- the byte: the levels that have any (02, 5/12)
unfoldable pub any_of : Aic → ℕ
any_of s = word_of 8 (λ p. not (eqb (level_word s p) 0))

-- the eight words and the byte of a record (02, 5/12)
unfoldable pub levels_of : Aic → Levels
levels_of s =
    record { words = level_word s 0 ∷ level_word s 1 ∷ level_word s 2 ∷ level_word s 3 ∷ level_word s 4 ∷ level_word s 5 ∷ level_word s 6 ∷ level_word s 7 ∷ []; any = any_of s }

-- every word and the byte are what the record says (02, 5/12)
unfoldable pub agrees : Aic → Levels → Bool
agrees s l = all_below 8 (λ p. eqb (get_or l.words p 0) (level_word s p)) && eqb l.any (any_of s)

-- the highest level of a byte, or no level if it has none (02, 5/12)
unfoldable pub highest_of : ℕ → ℕ
highest_of b = upto (λ (found p : ℕ). pick (bit b p) p found) no_level 8

-- the lowest source of the highest level, if that may start over the open entries; 32 where there is none (02, 5/12; 003, 27.7.3.1)
unfoldable pub chosen_by : Aic → Levels → ℕ
chosen_by s l =
    pick (not (eqb (highest_of l.any) no_level) && above s (highest_of l.any))
    (lowest_below 32 (bit (get_or l.words (highest_of l.any) 0))) 32
