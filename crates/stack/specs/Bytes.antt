-- The stack bytes that a table needs, and the open frames of a record (02, 4/12).
use Rattle.std.specs.Prelude.{ℕ, zero, suc, ◌≤◌, ◌<◌, max, ◌≡◌, Bool, not, ◌&&◌, eqb, leb, get_or}
use Rattle.words.specs.Choice.{pick}
use Rattle.words.specs.Counting.{all_below, sum_below}
use Rattle.words.specs.Word.{bit}
use Rattle.steps.specs.Refusals.{carried_out, oversized}
use Rattle.aic_record.specs.declared.Aic.{Aic}
use Rattle.aic_record.specs.Mode.{priority, kind}
use Rattle.aic_record.specs.Sound.{source_at}
use Rattle.stack.specs.declared.Table.{Table}
use Rattle.stack.specs.declared.Needed.{Needed}

-- ---- the figure

-- a normal source is neither source 0 nor forced, so bit 0 of the forced word plays no part (02, 4/12; 01, AIC, Fast side)
unfoldable pub normal : Table → ℕ → Bool
normal t i = not (eqb i 0) && not (bit t.forced i)

-- a normal source of level l
unfoldable pub is_of : Table → ℕ → ℕ → Bool
is_of t l i = normal t i && eqb (get_or t.priority i 0) l

-- the larger of b and the frame of source i, where that is a normal source of level l
unfoldable pub taller : Table → ℕ → ℕ → ℕ → ℕ
taller t l b i = pick (is_of t l i) (max b (get_or t.frame i 0)) b

-- the largest among the mark's frame and those of the normal sources of level l below n (02, 4/12)
unfoldable pub largest : Table → ℕ → ℕ → ℕ
largest t l zero = t.mark
largest t l (suc n) = taller t l (largest t l n) n

-- what level l needs
unfoldable pub level_bytes : Table → ℕ → ℕ
level_bytes t l = largest t l 32

-- what all eight need together (02, 4/12)
unfoldable pub stack_bytes : Table → ℕ
stack_bytes t = sum_below 8 (level_bytes t)

-- ---- the limits

-- the priority, the type and the frame of source i are within their limits (02, 4/12, Refusals)
unfoldable pub source_within : Table → ℕ → Bool
source_within t i = leb (get_or t.priority i 0) 7 && leb (get_or t.kind i 0) 3 && leb (get_or t.frame i 0) 65535

-- no number is beyond its limit, that of source 0, of a forced source and of the mark among them
unfoldable pub within_limits : Table → Bool
within_limits t = leb t.mark 65535 && all_below 32 (source_within t)

-- the figure, or 14 and nothing computed where a number is beyond its limit (02, 4/12, Refusals)
unfoldable pub needed : Table → Needed
needed t = pick (within_limits t) (record { refusal = carried_out; bytes = stack_bytes t }) (record { refusal = oversized; bytes = 0 })

-- ---- what it says of runs

-- the frame of an entry by its source: a mark is of source 0 (02, 3/12)
unfoldable pub frame_of : Table → ℕ → ℕ
frame_of t k = pick (eqb k 0) t.mark (get_or t.frame k 0)

-- the open frames of a record, added up
unfoldable pub open_bytes : Table → Aic → ℕ
open_bytes t s = sum_below s.depth (λ d. frame_of t (source_at s d))

-- no entry is open, nothing is remembered, and the modes and forcings are those of the table; source 0 is never forced, and bit 0 of the table's
-- word is ignored (02, 4/12 and 9/12)
pub record Set (t : Table) (s : Aic) : Type 0 where
  pub none : s.depth ≡ 0
  pub remembered : s.seen.what ≡ 0
  pub levels : (i : ℕ) → i < 32 → priority s i ≡ get_or t.priority i 0
  pub types : (i : ℕ) → i < 32 → kind s i ≡ get_or t.kind i 0
  pub forcings : (i : ℕ) → 1 ≤ i → i < 32 → bit s.forced i ≡ bit t.forced i
