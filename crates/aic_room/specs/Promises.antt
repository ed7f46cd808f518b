-- What is promised of the layout: a record determines every word of its room, and a room has one record.
use Rattle.std.specs.Prelude.{ℕ, ◌+◌, ◌<◌, ◌≡◌, List, length, get_or}
use Rattle.aic_record.specs.declared.Aic.{Aic}
use Rattle.aic_record.specs.Promises.{Shaped}
use Rattle.aic_levels.specs.Levels.{level_word, any_of, highest_of}
use Rattle.aic_room.specs.Room.{Laid}

pub record Promises : Type 0 where
  -- two rooms in which one record stands are equal: no word is free
  pub determined : (a : Aic) (r s : List ℕ) → Laid a r → Laid a s → r ≡ s
  -- two records that stand in one room are equal: no number of a record is left out
  pub whole : (a b : Aic) (r : List ℕ) → Laid a r → Laid b r → a ≡ b
  -- each record of the shape has a room, of 2,048 words; word 0 is the kind, 0 for an AIC (01, House trace)
  pub stands : (a : Aic) → Shaped a → (r : List ℕ) × Laid a r
  pub size : (a : Aic) (r : List ℕ) → Laid a r → (length r ≡ 2048) × (get_or r 0 0 ≡ 0)
  -- in it stand the word of each level, their byte, and the table of the highest levels (02, 5/12)
  pub levels : (a : Aic) (r : List ℕ) (p : ℕ) → Laid a r → p < 8 → get_or r (24 + p) 0 ≡ level_word a p
  pub byte : (a : Aic) (r : List ℕ) → Laid a r → get_or r 12 0 ≡ any_of a
  pub table : (a : Aic) (r : List ℕ) (b : ℕ) → Laid a r → b < 256 → get_or r (256 + b) 0 ≡ highest_of b
  -- words that nothing needs are 0: four after the single words, eight before the modes, 128 after the vectors, and all after the table
  pub spare : (a : Aic) (r : List ℕ) (i : ℕ) → Laid a r → i < 4 → get_or r (20 + i) 0 ≡ 0
  pub before : (a : Aic) (r : List ℕ) (i : ℕ) → Laid a r → i < 8 → get_or r (56 + i) 0 ≡ 0
  pub after : (a : Aic) (r : List ℕ) (i : ℕ) → Laid a r → i < 128 → get_or r (128 + i) 0 ≡ 0
  pub rest : (a : Aic) (r : List ℕ) (i : ℕ) → Laid a r → i < 1536 → get_or r (512 + i) 0 ≡ 0
