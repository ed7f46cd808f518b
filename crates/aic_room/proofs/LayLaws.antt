-- A record laid into a room of zeros.
use mathlib.Core.Path.{◌≡◌, refl, ap, ◌∙◌}
use mathlib.Core.List.{List}
use Prim.Native.Nat.{ℕ}
use native.Mathlib.Omega.{arith}
use lib.ListN.{get_or, set, replicate}
use Rattle.rooms.specs.Parts.{flat, Sized, made, zeros, stored}
use Rattle.rooms.proofs.PartLaws.{part_copied, part-made, part_sized, zeros_sized, zeros-flat}
use Rattle.aic_record.specs.declared.Aic.{Aic}
use Rattle.aic_record.specs.Promises.{Shaped}
use Rattle.aic_record.specs.Sound.{level_below}
use Rattle.words.specs.Word.{both, without}
use Rattle.aic_sources.specs.Search.{mode_word}
use Rattle.aic_levels.specs.Levels.{highest_of}
use Rattle.aic_room.specs.Room.{class_word, table, fast_word, sizes, room_of, Stale, Tabled, worded, kept_beside}

-- ---- the tables, one after another

module _ (a : Aic) (s : Shaped a) where
  -- the parts after the modes, the vectors, the sources and the levels of the entries, and the classes
  abbrev after₁ : List (List ℕ)
  after₁ = set (zeros sizes) 6 a.mode

  abbrev after₂ : List (List ℕ)
  after₂ = set after₁ 7 a.vector

  abbrev after₃ : List (List ℕ)
  after₃ = set after₂ 3 a.source

  abbrev after₄ : List (List ℕ)
  after₄ = set after₃ 4 a.level

  abbrev after₅ : List (List ℕ)
  after₅ = set after₄ 2 (made 8 (class_word a.mode))

  sized₁ : Sized after₁ sizes
  sized₁ = part_sized (zeros sizes) sizes (zeros_sized sizes) 6 a.mode s.0

  sized₂ : Sized after₂ sizes
  sized₂ = part_sized after₁ sizes sized₁ 7 a.vector s.1

  sized₃ : Sized after₃ sizes
  sized₃ = part_sized after₂ sizes sized₂ 3 a.source s.2

  sized₄ : Sized after₄ sizes
  sized₄ = part_sized after₃ sizes sized₃ 4 a.level s.3

  sized₅ : Sized after₅ sizes
  sized₅ = part_sized after₄ sizes sized₄ 2 (made 8 (class_word a.mode)) refl

  -- all of them stored, and the table
  pub tables-laid : (r₁ r₂ r₃ r₄ r₅ r₆ : List ℕ) → r₁ ≡ stored 64 (λ k. get_or a.mode k 0) (replicate 2048 0) 32 → r₂ ≡ stored 96 (λ k. get_or a.vector k 0) r₁ 32
      → r₃ ≡ stored 40 (λ k. get_or a.source k 0) r₂ 8 → r₄ ≡ stored 48 (λ k. get_or a.level k 0) r₃ 8 → r₅ ≡ stored 32 (class_word a.mode) r₄ 8
      → r₆ ≡ stored 256 highest_of r₅ 256 → Tabled a r₆
  unfolding table
  tables-laid r₁ r₂ r₃ r₄ r₅ r₆ d₁ d₂ d₃ d₄ d₅ d₆ =
      let e₁ : r₁ ≡ flat after₁ = d₁ ∙ ap (λ (l : List ℕ). stored 64 (λ k. get_or a.mode k 0) l 32) (zeros-flat sizes)
      ∙ part_copied (zeros sizes) sizes (zeros_sized sizes) 6 (omega arith) a.mode 32 s.0 refl in
      let e₂ : r₂ ≡ flat after₂ = d₂ ∙ ap (λ (l : List ℕ). stored 96 (λ k. get_or a.vector k 0) l 32) e₁ ∙ part_copied after₁ sizes sized₁ 7 (omega arith) a.vector 32 s.1 refl in
      let e₃ : r₃ ≡ flat after₃ = d₃ ∙ ap (λ (l : List ℕ). stored 40 (λ k. get_or a.source k 0) l 8) e₂ ∙ part_copied after₂ sizes sized₂ 3 (omega arith) a.source 8 s.2 refl in
      let e₄ : r₄ ≡ flat after₄ = d₄ ∙ ap (λ (l : List ℕ). stored 48 (λ k. get_or a.level k 0) l 8) e₃ ∙ part_copied after₃ sizes sized₃ 4 (omega arith) a.level 8 s.3 refl in
      let e₅ : r₅ ≡ flat after₅ = d₅ ∙ ap (λ (l : List ℕ). stored 32 (class_word a.mode) l 8) e₄ ∙ part-made after₄ sizes sized₄ 2 (omega arith) (class_word a.mode) 8 refl in
      record { shaped = s; words = d₆ ∙ ap (λ (l : List ℕ). stored 256 highest_of l 256) e₅ ∙ part-made after₅ sizes sized₅ 9 (omega arith) highest_of 256 refl }

  -- the single words after that
  pub words-laid : (r₁ r₂ r₃ : List ℕ) → Tabled a r₁ → r₂ ≡ worded a r₁ → r₃ ≡ kept_beside a r₂ → Stale a r₃
  unfolding room_of
  words-laid r₁ r₂ r₃ t e f =
      record { shaped = s; levels = λ _. 0; any = 0; words = f ∙ ap (kept_beside a) (e ∙ ap (worded a) t.words) }

-- the words that the record determines
pub kept-laid : (a : Aic) (l : List ℕ) (e h o f n m t : ℕ) → e ≡ mode_word a.mode 5 → h ≡ mode_word a.mode 6 → o ≡ without a.external h → f ≡ fast_word a
    → n ≡ without a.enabled f → m ≡ both a.enabled f → t ≡ level_below a.level a.depth
    → set (set (set (set (set (set l 13 e) 14 h) 16 o) 17 n) 18 m) 19 t ≡ kept_beside a l
kept-laid a l e h o f n m t p q r i j k u = rw (p, r ∙ ap (without a.external) q, q, j ∙ ap (without a.enabled) i, k ∙ ap (both a.enabled) i, u)
