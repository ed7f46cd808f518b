-- What a step in a room answers, with the record and the levels that stand there after it, is what the pair answers.
use mathlib.Core.Path.{◌≡◌, sym, ap, ap₂, ◌∙◌}
use mathlib.Core.Bool.{true, ◌&&◌}
use mathlib.Core.List.{List}
use Prim.Native.Nat.{ℕ, ◌+◌, ◌%◌, ◌<◌}
use native.Mathlib.Nat.{mod-eq_of_lt}
use lib.ListN.{length, get_or}
use Rattle.words.proofs.TruthLaws.{and_left, and_right}
use Rattle.steps.specs.declared.Step.{Step}
use Rattle.rooms.specs.Reply.{Reply}
use Rattle.aic_record.specs.declared.Aic.{Aic}
use Rattle.aic_record.specs.Sound.{sound}
use Rattle.aic.specs.Model as aic
use Rattle.aic_levels.specs.declared.Levels.{Levels}
use Rattle.aic_levels.specs.Levels.{levels_of, agrees}
use Rattle.aic_levels.specs.Model.{step_with}
use Rattle.aic_levels.proofs.LevelLaws.{any_lt}
use Rattle.aic_levels.proofs.StepLaws.{levels-same, step_same}
use Rattle.aic_room.specs.Room.{Laid}
use Rattle.aic_room.proofs.CellLaws.{any-is, level_word-is}
use Rattle.aic_room.specs.Reply.{reply_of}

-- the levels in a room are those of its record
pub levels-told : {a : Aic} {room : List ℕ} → Laid a room → (words : List ℕ) → length words ≡ 8 → ((p : ℕ) → p < 8 → get_or words p 0 ≡ get_or room (24 + p) 0)
    → record { words = words; any = get_or room 12 0 % 256 } ≡ levels_of a
levels-told {a} {room} h words n f =
    levels-same a words (get_or room 12 0 % 256) n (λ p l. f p l ∙ level_word-is h p l) (ap (λ (w : ℕ). w % 256) (any-is h) ∙ mod-eq_of_lt (any_lt a))

-- the answer at the end
pub answer-told : (s : Aic) (l : Levels) (x : Step) (n v : ℕ) {q : Reply} (t : Aic) (m : Levels) → (sound s && agrees s l) ≡ true → q ≡ reply_of (aic.step s x) → n ≡ q.0 → v ≡ q.1
    → t ≡ (aic.step s x).aic → m ≡ levels_of (aic.step s x).aic → record { refusal = n; value = v; aic = t; levels = m } ≡ step_with s l x
answer-told s l x n v t m ok e f g i j =
    ap₂ (λ (a : Aic) (k : Levels). record { refusal = n; value = v; aic = a; levels = k }) i j
    ∙ ap₂ (λ (p r : ℕ). record { refusal = p; value = r; aic = (aic.step s x).aic; levels = levels_of (aic.step s x).aic })
    (f ∙ ap (λ (r : Reply). r.0) e) (g ∙ ap (λ (r : Reply). r.1) e)
    ∙ sym (step_same s l x (and_left (sound s) (agrees s l) ok) (and_right (sound s) (agrees s l) ok))
