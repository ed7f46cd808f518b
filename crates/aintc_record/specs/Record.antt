-- The record with one of its parts put anew, and what a reset leaves. Each literal stands here once.
use Rattle.std.specs.Prelude.{ℕ, Bool, true, false, List, replicate}
use Rattle.words.specs.Choice.{pick}
use Rattle.aintc_record.specs.declared.Aintc.{Aintc}
use Rattle.aintc_record.specs.declared.Chosen.{Chosen}

-- the lines at other levels (000, 4.5.12)
abbrev pub with_lines : Aintc → List ℕ → Aintc
with_lines s ws = record { lines = ws; soft = s.soft; masks = s.masks; routes = s.routes; threshold = s.threshold; revision = s.revision; guarded = s.guarded; autoidle = s.autoidle; turbo = s.turbo; funcidle = s.funcidle; irq = s.irq; fiq = s.fiq }

-- other soft interrupts (000, 4.5.16)
abbrev pub with_soft : Aintc → List ℕ → Aintc
with_soft s ws = record { lines = s.lines; soft = ws; masks = s.masks; routes = s.routes; threshold = s.threshold; revision = s.revision; guarded = s.guarded; autoidle = s.autoidle; turbo = s.turbo; funcidle = s.funcidle; irq = s.irq; fiq = s.fiq }

-- other masks (000, 4.5.13)
abbrev pub with_masks : Aintc → List ℕ → Aintc
with_masks s ws = record { lines = s.lines; soft = s.soft; masks = ws; routes = s.routes; threshold = s.threshold; revision = s.revision; guarded = s.guarded; autoidle = s.autoidle; turbo = s.turbo; funcidle = s.funcidle; irq = s.irq; fiq = s.fiq }

-- other routes (000, 4.5.20)
abbrev pub with_routes : Aintc → List ℕ → Aintc
with_routes s bs = record { lines = s.lines; soft = s.soft; masks = s.masks; routes = bs; threshold = s.threshold; revision = s.revision; guarded = s.guarded; autoidle = s.autoidle; turbo = s.turbo; funcidle = s.funcidle; irq = s.irq; fiq = s.fiq }

-- another threshold (000, 4.5.11)
abbrev pub with_threshold : Aintc → ℕ → Aintc
with_threshold s v = record { lines = s.lines; soft = s.soft; masks = s.masks; routes = s.routes; threshold = v; revision = s.revision; guarded = s.guarded; autoidle = s.autoidle; turbo = s.turbo; funcidle = s.funcidle; irq = s.irq; fiq = s.fiq }

-- another revision code (000, 4.5.1)
abbrev pub with_revision : Aintc → ℕ → Aintc
with_revision s v = record { lines = s.lines; soft = s.soft; masks = s.masks; routes = s.routes; threshold = s.threshold; revision = v; guarded = s.guarded; autoidle = s.autoidle; turbo = s.turbo; funcidle = s.funcidle; irq = s.irq; fiq = s.fiq }

-- unprivileged accesses barred or not (000, 4.5.7)
abbrev pub with_guarded : Aintc → Bool → Aintc
with_guarded s t = record { lines = s.lines; soft = s.soft; masks = s.masks; routes = s.routes; threshold = s.threshold; revision = s.revision; guarded = t; autoidle = s.autoidle; turbo = s.turbo; funcidle = s.funcidle; irq = s.irq; fiq = s.fiq }

-- another AUTOIDLE: kept, no effect (000, 4.5.2)
abbrev pub with_autoidle : Aintc → Bool → Aintc
with_autoidle s t = record { lines = s.lines; soft = s.soft; masks = s.masks; routes = s.routes; threshold = s.threshold; revision = s.revision; guarded = s.guarded; autoidle = t; turbo = s.turbo; funcidle = s.funcidle; irq = s.irq; fiq = s.fiq }

-- another TURBO and another FUNCIDLE: kept, no effect (000, 4.5.8)
abbrev pub with_idle : Aintc → Bool → Bool → Aintc
with_idle s t u = record { lines = s.lines; soft = s.soft; masks = s.masks; routes = s.routes; threshold = s.threshold; revision = s.revision; guarded = s.guarded; autoidle = s.autoidle; turbo = t; funcidle = u; irq = s.irq; fiq = s.fiq }

-- other ones chosen for IRQ and for FIQ (000, 4.3.1.2.3)
abbrev pub with_sides : Aintc → Chosen → Chosen → Aintc
with_sides s a b = record { lines = s.lines; soft = s.soft; masks = s.masks; routes = s.routes; threshold = s.threshold; revision = s.revision; guarded = s.guarded; autoidle = s.autoidle; turbo = s.turbo; funcidle = s.funcidle; irq = a; fiq = b }

-- the one chosen for FIQ, where f, or for IRQ (000, 4.5.4 and 4.5.5)
unfoldable pub side : Aintc → Bool → Chosen
side s f = pick f s.fiq s.irq

-- none is chosen (000, figures 4-9 and 4-14: the number and the priority after reset)
abbrev pub nobody : Chosen
nobody = record { active = false; number = 0; priority = 0 }

-- input k is chosen at priority p (000, 4.3.1.2.3)
abbrev pub chosen_at : ℕ → ℕ → Chosen
chosen_at k p = record { active = true; number = k; priority = p }

-- what a reset leaves, with the lines at these levels: all masked, none soft, all of priority 0 to IRQ, no threshold, none chosen (000, figures 4-7 to 4-25), and revision 0 (K5)
unfoldable pub reset : List ℕ → Aintc
reset ws = record { lines = ws; soft = replicate 4 0; masks = replicate 4 0xFFFFFFFF; routes = replicate 128 0; threshold = 0xFF; revision = 0; guarded = false; autoidle = false; turbo = false; funcidle = false; irq = nobody; fiq = nobody }

-- a record of zeros: what stands where no controller was started (01, House trace: all 0 before a start)
unfoldable pub blank : Aintc
blank = record { lines = replicate 4 0; soft = replicate 4 0; masks = replicate 4 0; routes = replicate 128 0; threshold = 0; revision = 0; guarded = false; autoidle = false; turbo = false; funcidle = false; irq = nobody; fiq = nobody }
