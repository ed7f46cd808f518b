-- What is promised of the layout and of the steps: a record determines every word of its room, and a room has one record (01, CoreInterrupt).
use Rattle.std.specs.Prelude.{ℕ, ◌+◌, ◌<◌, ◌≡◌, true, List, ◌≢◌, length, get_or}
use Rattle.steps.specs.declared.Step.{Step}
use Rattle.steps.specs.declared.Step.TheVariants.{Read}
use Rattle.rooms.specs.Reply.{Reply}
use Rattle.coreinterrupt.specs.declared.sides.Side.{Side}
use Rattle.coreinterrupt.specs.declared.Core.{Core}
use Rattle.coreinterrupt.specs.Model.{sound, step}
use Rattle.coreinterrupt_room.specs.Room.{Laid, Done}

-- the five numbers of a side stand in the words from a place on
abbrev pub SideAt : List ℕ → ℕ → Side → Type 0
SideAt r at s =
    (get_or r at 0 ≡ s.count) × (get_or r (at + 1) 0 ≡ s.level) × (get_or r (at + 2) 0 ≡ s.inputs) × (get_or r (at + 3) 0 ≡ s.soft) × (get_or r (at + 4) 0 ≡ s.enable)

pub record Promises : Type 0 where
  -- ---- the layout
  -- two rooms in which one record stands are equal: no word is free
  pub determined : (c : Core) (r s : List ℕ) → Laid c r → Laid c s → r ≡ s
  -- two records that stand in one room are equal: no number of a record is left out
  pub whole : (c d : Core) (r : List ℕ) → Laid c r → Laid d r → c ≡ d
  -- each record has a room, of 2,048 words, whose word 0 is the kind of a CoreInterrupt (01, House trace)
  pub stands : (c : Core) → (r : List ℕ) × Laid c r
  pub size : (c : Core) (r : List ℕ) → Laid c r → (length r ≡ 2048) × (get_or r 0 0 ≡ 1)
  -- the FIQ side stands from word 1 on, the IRQ side from word 6 on
  pub sides : (c : Core) (r : List ℕ) → Laid c r → SideAt r 1 c.fiq × SideAt r 6 c.irq
  -- what no number needs is 0
  pub rest : (c : Core) (r : List ℕ) (i : ℕ) → Laid c r → i < 2037 → get_or r (11 + i) 0 ≡ 0
  -- ---- a step of the record in the room r, after which the room is s and the reply q
  -- the reply has the refusal and the value of the step by value, and in s stands the record that this leaves, and no other
  pub answers : (c : Core) (x : Step) (s : List ℕ) (q : Reply) → Done (step c x) s q
      → (q.0 ≡ (step c x).refusal) × (q.1 ≡ (step c x).value) × ((d : Core) → Laid d s → d ≡ (step c x).core)
  -- a step keeps a sound record sound (01, CoreInterrupt)
  pub step_sound : (c d : Core) (x : Step) (s : List ℕ) (q : Reply) → Done (step c x) s q → Laid d s → sound c ≡ true → sound d ≡ true
  -- a refused step leaves every word of the room as it was, and answers the value 0 (01, Numbers)
  pub refused_same : (c : Core) (x : Step) (r s : List ℕ) (q : Reply) → Laid c r → Done (step c x) s q → q.0 ≢ 0 → (s ≡ r) × (q.1 ≡ 0)
  -- so does a read, refused or not (01, CoreInterrupt)
  pub read_same : (c : Core) (offset : ℕ) (r s : List ℕ) (q : Reply) → Laid c r → Done (step c (Read offset)) s q → s ≡ r
