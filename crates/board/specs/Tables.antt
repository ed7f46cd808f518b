-- When each number is given, and what is done where none is, as sentences: the promises are made of these.
use Rattle.std.specs.Prelude.{ℕ, ◌+◌, ◌<◌, ◌≤◌, ◌≡◌, true, false, ◌↔◌, ◌≢◌, ◌⊎◌, get_or}
use Rattle.coreinterrupt.specs.declared.Core.{Core}
use Rattle.board_wires.specs.declared.Board.{Board}
use Rattle.board_wires.specs.declared.Wire.{Wire}
use Rattle.board_wires.specs.declared.Wire.TheVariants.{Nothing, Pin, Irq, Fiq}
use Rattle.board_wires.specs.Wires.{wire_at, core_at}
use Rattle.board.specs.Sound.{sound}
use Rattle.board.specs.declared.record.Answer.{Answer}

-- ---- numbers

-- a number of the configuration is beyond its limit: 8 FIQ sources, 32 IRQ sources, active levels of 0 or 1 (01, CoreInterrupt)
abbrev pub Misconfigured : ℕ → ℕ → ℕ → ℕ → Type 0
Misconfigured f i fl il = (8 < f) ⊎ ((32 < i) ⊎ ((1 < fl) ⊎ (1 < il)))

-- the wire names a pin beyond the 320, or a controller that the board has not (02, 8/12)
abbrev pub Missing : Board → Wire → Type 0
Missing b Nothing = ⊥
Missing b (Pin p) = 320 ≤ p
Missing b (Irq d) = b.controllers ≤ d
Missing b (Fiq d) = b.controllers ≤ d

-- the wire is to a number that is not lower (02, 8/12)
abbrev pub Upward : ℕ → Wire → Type 0
Upward c Nothing = ⊥
Upward c (Pin p) = ⊥
Upward c (Irq d) = c ≤ d
Upward c (Fiq d) = c ≤ d

-- there is no such controller on the board, or no such input (02, 8/12)
abbrev pub Absent : Board → ℕ → ℕ → Type 0
Absent b c i = (b.controllers ≤ c) ⊎ (40 ≤ i)

-- n is what a board answers that is given a controller: 12, then 6 for a ninth, then 10 (02, 8/12; 01, Numbers)
pub record AddTable (b : Board) (f i fl il n : ℕ) : Type 0 where
  pub twelve : (n ≡ 12) ↔ (sound b ≡ false)
  pub six : (n ≡ 6) ↔ ((sound b ≡ true) × (b.controllers ≡ 8))
  pub ten : (n ≡ 10) ↔ ((sound b ≡ true) × ((b.controllers < 8) × Misconfigured f i fl il))
  pub none : (n ≡ 0) ↔ ((sound b ≡ true) × ((b.controllers < 8) × (Misconfigured f i fl il → ⊥)))

-- n is what a board answers that is wired: 12, then 6, then 15 (02, 8/12)
pub record WireTable (b : Board) (c i : ℕ) (w : Wire) (n : ℕ) : Type 0 where
  pub twelve : (n ≡ 12) ↔ (sound b ≡ false)
  pub six : (n ≡ 6) ↔ ((sound b ≡ true) × (Absent b c i ⊎ Missing b w))
  pub fifteen : (n ≡ 15) ↔ ((sound b ≡ true) × (((Absent b c i ⊎ Missing b w) → ⊥) × Upward c w))
  pub none : (n ≡ 0) ↔ ((sound b ≡ true) × (((Absent b c i ⊎ Missing b w) → ⊥) × (Upward c w → ⊥)))

-- n is what a board answers whose pin is put: 12, then 6 (02, 8/12)
pub record PinTable (b : Board) (p l n : ℕ) : Type 0 where
  pub twelve : (n ≡ 12) ↔ (sound b ≡ false)
  pub six : (n ≡ 6) ↔ ((sound b ≡ true) × ((320 ≤ p) ⊎ (1 < l)))
  pub none : (n ≡ 0) ↔ ((sound b ≡ true) × ((p < 320) × (l ≤ 1)))

-- n is what a board answers of controller c, and m what that answers by itself: 12, then 6, then m (02, 8/12)
pub record OwnTable (b : Board) (c m n : ℕ) : Type 0 where
  pub twelve : (n ≡ 12) ↔ (sound b ≡ false)
  pub six : (n ≡ 6) ↔ ((sound b ≡ true) × (b.controllers ≤ c))
  pub own : sound b ≡ true → c < b.controllers → n ≡ m

-- n is what a board answers of input i of controller c: 12, then 6 (02, 8/12)
pub record InputTable (b : Board) (c i n : ℕ) : Type 0 where
  pub twelve : (n ≡ 12) ↔ (sound b ≡ false)
  pub six : (n ≡ 6) ↔ ((sound b ≡ true) × Absent b c i)
  pub none : (n ≡ 0) ↔ ((sound b ≡ true) × (Absent b c i → ⊥))

-- ---- changes

-- a controller is added as the next number, which is answered: no input of it is wired, and nothing else changes (02, 8/12)
pub record Adds (b : Board) (k : Core) (a : Answer) : Type 0 where
  pub value : a.value ≡ b.controllers
  pub count : a.board.controllers ≡ b.controllers + 1
  pub new : core_at a.board b.controllers ≡ k
  pub unwired : (i : ℕ) → wire_at a.board b.controllers i ≡ Nothing
  pub others : (c : ℕ) → c ≢ b.controllers → core_at a.board c ≡ core_at b c
  pub wires : a.board.wire ≡ b.wire
  pub pins : a.board.pin ≡ b.pin

-- input i of controller c is wired to w, and nothing else changes (02, 8/12)
pub record Wires (b : Board) (c i : ℕ) (w : Wire) (a : Answer) : Type 0 where
  pub value : a.value ≡ 0
  pub new : wire_at a.board c i ≡ w
  pub others : (d j : ℕ) → (d ≢ c) ⊎ (j ≢ i) → wire_at a.board d j ≡ wire_at b d j
  pub count : a.board.controllers ≡ b.controllers
  pub pins : a.board.pin ≡ b.pin
  pub cores : a.board.core ≡ b.core

-- pin p is at level l, and nothing else changes (02, 8/12)
pub record Pins (b : Board) (p l : ℕ) (a : Answer) : Type 0 where
  pub value : a.value ≡ 0
  pub new : get_or a.board.pin p 0 ≡ l
  pub others : (q : ℕ) → q ≢ p → get_or a.board.pin q 0 ≡ get_or b.pin q 0
  pub count : a.board.controllers ≡ b.controllers
  pub wires : a.board.wire ≡ b.wire
  pub cores : a.board.core ≡ b.core
