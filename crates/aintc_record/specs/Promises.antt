-- What is promised of the record: each of its parts put anew, what a reset leaves, the bounds of the chosen ones, and the fields of a route.
use Rattle.std.specs.Prelude.{ℕ, ◌+◌, ◌*◌, ◌/◌, ◌%◌, ◌<◌, ◌≤◌, ◌≡◌, Bool, true, false, ◌&&◌, ◌||◌, List, ◌↔◌, eqb, leb, length, get_or, replicate}
use Rattle.words.specs.Array.{bit_at}
use Rattle.words.specs.Word.{bit}
use Rattle.aintc_record.specs.declared.Aintc.{Aintc}
use Rattle.aintc_record.specs.declared.Chosen.{Chosen}
use Rattle.aintc_record.specs.Bounds.{bounded}
use Rattle.aintc_record.specs.Record.{with_lines, with_soft, with_masks, with_routes, with_threshold, with_revision, with_guarded, with_autoidle, with_idle, with_sides}
use Rattle.aintc_record.specs.Record.{nobody, chosen_at, side, reset, blank}
use Rattle.aintc_record.specs.Route.{priority_of, route_of, route_value, route_byte, route_at, priority, routed}

-- the arrays of a record have the lengths that the language gives them; a list in a definition has any length
abbrev pub Shaped : Aintc → Type 0
Shaped s = (length s.lines ≡ 4) × (length s.soft ≡ 4) × (length s.masks ≡ 4) × (length s.routes ≡ 128)

-- the bounds of the one chosen for an output (02, 2/12; 000, figures 4-9 and 4-14)
pub record Bounds (c : Chosen) : Type 0 where
  -- a chosen input is one of 0 to 127
  pub number : c.active ≡ true → c.number ≤ 127
  -- at a priority from 0 to 127
  pub priority : c.active ≡ true → c.priority ≤ 127
  -- with none chosen both numbers are 0
  pub none : c.active ≡ false → (c.number ≡ 0) × (c.priority ≡ 0)

-- what a reset leaves beside the lines (000, 4.5: the values after reset)
pub record Fresh (s : Aintc) : Type 0 where
  -- all 128 inputs are masked (000, figure 4-18)
  pub mask_words : (n : ℕ) → n < 4 → get_or s.masks n 0 ≡ 0xFFFFFFFF
  pub masks : (k : ℕ) → k < 128 → bit_at s.masks k ≡ true
  -- no soft interrupt is set (000, figure 4-21)
  pub soft_words : (n : ℕ) → get_or s.soft n 0 ≡ 0
  pub soft : (k : ℕ) → bit_at s.soft k ≡ false
  -- every input is of priority 0 and routed to IRQ (000, figure 4-25)
  pub routes : (k : ℕ) → route_at s k ≡ 0
  -- the threshold is disabled (000, figure 4-16; 4.3.1.2.2)
  pub threshold : s.threshold ≡ 0xFF
  -- every other bit is 0 (000, figures 4-7, 4-12 and 4-13), the revision by K5
  pub revision : s.revision ≡ 0
  pub guarded : s.guarded ≡ false
  pub autoidle : s.autoidle ≡ false
  pub turbo : s.turbo ≡ false
  pub funcidle : s.funcidle ≡ false
  -- no input is chosen (000, figures 4-9 and 4-10)
  pub irq : s.irq ≡ nobody
  pub fiq : s.fiq ≡ nobody

-- the record with one part put anew, field by field
pub record Setters (s : Aintc) : Type 0 where
  pub lines : (ws : List ℕ) → with_lines s ws ≡ record { lines = ws; soft = s.soft; masks = s.masks; routes = s.routes; threshold = s.threshold; revision = s.revision; guarded = s.guarded; autoidle = s.autoidle; turbo = s.turbo; funcidle = s.funcidle; irq = s.irq; fiq = s.fiq }
  pub soft : (ws : List ℕ) → with_soft s ws ≡ record { lines = s.lines; soft = ws; masks = s.masks; routes = s.routes; threshold = s.threshold; revision = s.revision; guarded = s.guarded; autoidle = s.autoidle; turbo = s.turbo; funcidle = s.funcidle; irq = s.irq; fiq = s.fiq }
  pub masks : (ws : List ℕ) → with_masks s ws ≡ record { lines = s.lines; soft = s.soft; masks = ws; routes = s.routes; threshold = s.threshold; revision = s.revision; guarded = s.guarded; autoidle = s.autoidle; turbo = s.turbo; funcidle = s.funcidle; irq = s.irq; fiq = s.fiq }
  pub routes : (bs : List ℕ) → with_routes s bs ≡ record { lines = s.lines; soft = s.soft; masks = s.masks; routes = bs; threshold = s.threshold; revision = s.revision; guarded = s.guarded; autoidle = s.autoidle; turbo = s.turbo; funcidle = s.funcidle; irq = s.irq; fiq = s.fiq }
  pub threshold : (v : ℕ) → with_threshold s v ≡ record { lines = s.lines; soft = s.soft; masks = s.masks; routes = s.routes; threshold = v; revision = s.revision; guarded = s.guarded; autoidle = s.autoidle; turbo = s.turbo; funcidle = s.funcidle; irq = s.irq; fiq = s.fiq }
  pub revision : (v : ℕ) → with_revision s v ≡ record { lines = s.lines; soft = s.soft; masks = s.masks; routes = s.routes; threshold = s.threshold; revision = v; guarded = s.guarded; autoidle = s.autoidle; turbo = s.turbo; funcidle = s.funcidle; irq = s.irq; fiq = s.fiq }
  pub guarded : (t : Bool) → with_guarded s t ≡ record { lines = s.lines; soft = s.soft; masks = s.masks; routes = s.routes; threshold = s.threshold; revision = s.revision; guarded = t; autoidle = s.autoidle; turbo = s.turbo; funcidle = s.funcidle; irq = s.irq; fiq = s.fiq }
  pub autoidle : (t : Bool) → with_autoidle s t ≡ record { lines = s.lines; soft = s.soft; masks = s.masks; routes = s.routes; threshold = s.threshold; revision = s.revision; guarded = s.guarded; autoidle = t; turbo = s.turbo; funcidle = s.funcidle; irq = s.irq; fiq = s.fiq }
  pub idle : (t u : Bool) → with_idle s t u ≡ record { lines = s.lines; soft = s.soft; masks = s.masks; routes = s.routes; threshold = s.threshold; revision = s.revision; guarded = s.guarded; autoidle = s.autoidle; turbo = t; funcidle = u; irq = s.irq; fiq = s.fiq }
  pub sides : (a b : Chosen) → with_sides s a b ≡ record { lines = s.lines; soft = s.soft; masks = s.masks; routes = s.routes; threshold = s.threshold; revision = s.revision; guarded = s.guarded; autoidle = s.autoidle; turbo = s.turbo; funcidle = s.funcidle; irq = a; fiq = b }

pub record Promises : Type 0 where
  -- ---- the record
  -- each part put anew: every other part is as it was
  pub setters : (s : Aintc) → Setters s
  -- none is chosen, and one is, field by field (000, 4.3.1.2.3)
  pub nobody_is : nobody ≡ record { active = false; number = 0; priority = 0 }
  pub chosen_is : (k p : ℕ) → chosen_at k p ≡ record { active = true; number = k; priority = p }
  -- the FIQ side is the one chosen for FIQ, the other the one chosen for IRQ (000, 4.5.4 and 4.5.5)
  pub side_fiq : (s : Aintc) → side s true ≡ s.fiq
  pub side_irq : (s : Aintc) → side s false ≡ s.irq
  -- ---- the reset
  -- what a reset leaves, field by field; the lines are those given (000, 4.5)
  pub reset_fresh : (ws : List ℕ) → Fresh (reset ws)
  pub reset_lines : (ws : List ℕ) → (reset ws).lines ≡ ws
  -- its chosen ones are within their bounds, and its arrays have their lengths
  pub reset_bounded : (ws : List ℕ) → bounded (reset ws) ≡ true
  pub reset_shaped : (ws : List ℕ) → length ws ≡ 4 → Shaped (reset ws)
  -- the record where none was started: all 0 (01, House trace)
  pub blank_is : blank
      ≡ record { lines = replicate 4 0; soft = replicate 4 0; masks = replicate 4 0; routes = replicate 128 0; threshold = 0; revision = 0; guarded = false; autoidle = false; turbo = false; funcidle = false; irq = nobody; fiq = nobody }
  pub blank_bounded : bounded blank ≡ true
  pub blank_shaped : Shaped blank
  -- ---- the bounds
  -- the two chosen ones are within their bounds exactly if each is within its own (02, 2/12)
  pub bounded_is : (s : Aintc) → (bounded s ≡ true) ↔ (Bounds s.irq × Bounds s.fiq)
  -- ---- routes
  -- the route of an input is its byte, 0 past the last one (000, 4.5.20)
  pub route_is : (s : Aintc) (k : ℕ) → route_at s k ≡ get_or s.routes k 0
  -- bits 7:1 of the byte are the priority, bit 0 is the output (000, figure 4-25)
  pub route_fields : (b : ℕ) → (priority_of b ≡ b / 2 % 128) × (route_of b ≡ b % 2)
  -- so for each input: its priority, and FIQ for 1, IRQ for 0 (000, table 4-23)
  pub priority_is : (s : Aintc) (k : ℕ) → priority s k ≡ route_at s k / 2 % 128
  pub routed_fiq : (s : Aintc) (k : ℕ) → (routed s true k ≡ true) ↔ (route_at s k % 2 ≡ 1)
  pub routed_irq : (s : Aintc) (k : ℕ) → (routed s false k ≡ true) ↔ (route_at s k % 2 ≡ 0)
  -- the register shows the priority in bits 8:2 and the output in bit 0 (000, figure 4-25)
  pub route_shown : (b : ℕ) → route_value b ≡ b / 2 % 128 * 4 + b % 2
  -- a written value gives the priority in its bits 8:2 and the output in its bit 0 (000, figure 4-25)
  pub route_taken : (v : ℕ) → (priority_of (route_byte v) ≡ v / 4 % 128) × (route_of (route_byte v) ≡ v % 2)
  -- of the value that is written, the bits 8:2 and the bit 0 are shown again and no other (000, figure 4-25)
  pub route_kept : (v k : ℕ) → k < 32 → bit (route_value (route_byte v)) k ≡ (bit v k && (eqb k 0 || (leb 2 k && leb k 8)))
  -- every byte is the route of what its register shows, and every written value becomes a byte
  pub route_whole : (b : ℕ) → b < 256 → route_byte (route_value b) ≡ b
  pub route_fits : (v : ℕ) → route_byte v < 256
  -- a priority is at most 127 (000, 4.3.1.2.2)
  pub priority_fits : (b : ℕ) → priority_of b ≤ 127
