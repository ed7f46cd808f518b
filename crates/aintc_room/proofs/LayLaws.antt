-- A record laid into a room of zeros.
use mathlib.Core.Path.{◌≡◌, refl, ap, ◌∙◌}
use mathlib.Core.List.{List}
use Prim.Native.Nat.{ℕ, ◌<◌}
use native.Mathlib.Omega.{arith}
use lib.ListN.{get_or, set, replicate}
use Rattle.words.specs.Counting.{one}
use Rattle.rooms.specs.Parts.{flat, Sized, made, zeros, stored}
use Rattle.rooms.proofs.PartLaws.{part_copied, part-made, part_sized, zeros_sized, zeros-flat}
use Rattle.aintc_record.specs.declared.Aintc.{Aintc}
use Rattle.aintc_record.specs.Promises.{Shaped}
use Rattle.aintc_room.specs.Room.{fiq_word, bits_word, sizes, laid, Laid, Tabled, chosen_put}

-- the settings, stored
abbrev pub settings_put : ℕ → ℕ → ℕ → ℕ → ℕ → ℕ → List ℕ → List ℕ
settings_put threshold revision guarded autoidle turbo funcidle l =
    set (set (set (set (set (set (set l 0 3) 1 threshold) 2 revision) 3 guarded) 4 autoidle) 5 turbo) 6 funcidle

module _ (a : Aintc) (s : Shaped a) where
  -- the parts after the lines, the soft interrupts, the masks, the words of FIQ and those of the priorities
  abbrev after₁ : List (List ℕ)
  after₁ = set (zeros sizes) 1 a.lines

  abbrev after₂ : List (List ℕ)
  after₂ = set after₁ 2 a.soft

  abbrev after₃ : List (List ℕ)
  after₃ = set after₂ 3 a.masks

  abbrev after₄ : List (List ℕ)
  after₄ = set after₃ 4 (made 4 (fiq_word a.routes))

  abbrev after₅ : List (List ℕ)
  after₅ = set after₄ 5 (made 28 (bits_word a.routes))

  sized₁ : Sized after₁ sizes
  sized₁ = part_sized (zeros sizes) sizes (zeros_sized sizes) 1 a.lines s.0

  sized₂ : Sized after₂ sizes
  sized₂ = part_sized after₁ sizes sized₁ 2 a.soft s.1

  sized₃ : Sized after₃ sizes
  sized₃ = part_sized after₂ sizes sized₂ 3 a.masks s.2

  sized₄ : Sized after₄ sizes
  sized₄ = part_sized after₃ sizes sized₃ 4 (made 4 (fiq_word a.routes)) refl

  sized₅ : Sized after₅ sizes
  sized₅ = part_sized after₄ sizes sized₄ 5 (made 28 (bits_word a.routes)) refl

  -- all of them stored, and the routes
  pub tables-laid : (r₁ r₂ r₃ r₄ r₅ r₆ : List ℕ) → r₁ ≡ stored 16 (λ k. get_or a.lines k 0) (replicate 2048 0) 4 → r₂ ≡ stored 20 (λ k. get_or a.soft k 0) r₁ 4
      → r₃ ≡ stored 24 (λ k. get_or a.masks k 0) r₂ 4 → r₄ ≡ stored 28 (fiq_word a.routes) r₃ 4 → r₅ ≡ stored 32 (bits_word a.routes) r₄ 28
      → r₆ ≡ stored 128 (λ k. get_or a.routes k 0) r₅ 128 → ((k : ℕ) → k < 128 → get_or a.routes k 0 < 256) → Tabled a r₆
  tables-laid r₁ r₂ r₃ r₄ r₅ r₆ d₁ d₂ d₃ d₄ d₅ d₆ b =
      let e₁ : r₁ ≡ flat after₁ = d₁ ∙ ap (λ (l : List ℕ). stored 16 (λ k. get_or a.lines k 0) l 4) (zeros-flat sizes)
      ∙ part_copied (zeros sizes) sizes (zeros_sized sizes) 1 (omega arith) a.lines 4 s.0 refl in
      let e₂ : r₂ ≡ flat after₂ = d₂ ∙ ap (λ (l : List ℕ). stored 20 (λ k. get_or a.soft k 0) l 4) e₁ ∙ part_copied after₁ sizes sized₁ 2 (omega arith) a.soft 4 s.1 refl in
      let e₃ : r₃ ≡ flat after₃ = d₃ ∙ ap (λ (l : List ℕ). stored 24 (λ k. get_or a.masks k 0) l 4) e₂ ∙ part_copied after₂ sizes sized₂ 3 (omega arith) a.masks 4 s.2 refl in
      let e₄ : r₄ ≡ flat after₄ = d₄ ∙ ap (λ (l : List ℕ). stored 28 (fiq_word a.routes) l 4) e₃ ∙ part-made after₃ sizes sized₃ 4 (omega arith) (fiq_word a.routes) 4 refl in
      let e₅ : r₅ ≡ flat after₅ = d₅ ∙ ap (λ (l : List ℕ). stored 32 (bits_word a.routes) l 28) e₄ ∙ part-made after₄ sizes sized₄ 5 (omega arith) (bits_word a.routes) 28 refl in
      record {
        shaped = s;
        bytes = b;
        words = d₆ ∙ ap (λ (l : List ℕ). stored 128 (λ k. get_or a.routes k 0) l 128) e₅ ∙ part_copied after₅ sizes sized₅ 7 (omega arith) a.routes 128 s.3 refl;
      }

  -- the single words after that
  pub words-laid : (r₁ r₂ r₃ : List ℕ) (th re gu au tu fu : ℕ) → Tabled a r₁ → (th ≡ a.threshold) × (a.threshold < 256) → (re ≡ a.revision) × (a.revision < 256)
      → gu ≡ one a.guarded → au ≡ one a.autoidle → tu ≡ one a.turbo → fu ≡ one a.funcidle
      → r₂ ≡ chosen_put 8 a.irq (settings_put th re gu au tu fu r₁) → r₃ ≡ chosen_put 12 a.fiq r₂ → Laid a r₃
  unfolding laid
  words-laid r₁ r₂ r₃ th re gu au tu fu t et er eg ea eu ef e₂ e₃ =
      record {
        shaped = s;
        bytes = record { threshold = et.1; revision = er.1; routes = t.bytes };
        words = e₃ ∙ ap (chosen_put 12 a.fiq) (e₂ ∙ ap (chosen_put 8 a.irq) (told ∙ ap (settings_put a.threshold a.revision (one a.guarded) (one a.autoidle) (one a.turbo) (one a.funcidle)) t.words));
      }
    where
      told : settings_put th re gu au tu fu r₁ ≡ settings_put a.threshold a.revision (one a.guarded) (one a.autoidle) (one a.turbo) (one a.funcidle) r₁
      told = rw (et.0, er.0, eg, ea, eu, ef)
