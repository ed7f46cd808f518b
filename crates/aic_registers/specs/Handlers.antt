-- Opening and closing entries, the two vector reads, and the write of IVR (01, AIC, Fast side and Normal side; 02, 3/12 and 9/12; 003, 27.7.3.4,
-- 27.7.4.3, 27.7.4.5 and 27.7.5).
use Rattle.std.specs.Prelude.{ℕ, ◌+◌, ◌-◌, false, eqb, ltb, get_or, set}
use Rattle.words.specs.Choice.{pick}
use Rattle.words.specs.Word.{with_bit}
use Rattle.steps.specs.Refusals.{carried_out}
use Rattle.aic_record.specs.declared.Aic.{Aic}
use Rattle.aic_record.specs.declared.Seen.{Seen}
use Rattle.aic_record.specs.Record.{nothing_seen, with_memory, with_handlers, with_seen}
use Rattle.aic_record.specs.Mode.{priority, edge}
use Rattle.aic_record.specs.Sound.{source_at, level_below, protects}
use Rattle.aic_sources.specs.Fast.{fast_asks}
use Rattle.aic_sources.specs.Normal.{candidates, chosen}
use Rattle.aic_registers.specs.declared.Answer.{Answer}

-- a step that is carried out answers a value and the record after it
abbrev pub answered : Aic → ℕ → Answer
answered s v = record { refusal = carried_out; value = v; aic = s }

-- a step that is refused answers its number, the value 0 and the same record
abbrev pub refused : Aic → ℕ → Answer
refused s n = record { refusal = n; value = 0; aic = s }

-- the memory of source k is cleared
abbrev pub forgotten : Aic → ℕ → Aic
forgotten s k = with_memory s (with_bit s.memory k false)

-- the memory of source k is cleared if it is edge-triggered (003, 27.7.3.4 and 27.7.4.3)
unfoldable pub spent : Aic → ℕ → Aic
spent s k = pick (edge s k) (forgotten s k) s

-- an entry of source k is opened at a level, after those already open (003, 27.7.3.2 and 27.7.3.4)
unfoldable pub opened : Aic → ℕ → ℕ → Aic
opened s k l = with_handlers s (set s.source s.depth k) (set s.level s.depth l) (s.depth + 1)

-- source k is started at a level: a handler is opened, and its memory is cleared if it is edge-triggered (003, 27.7.3.4)
unfoldable pub started_at : Aic → ℕ → ℕ → Aic
started_at s k l = opened (spent s k) k l

-- a spurious mark is opened, with the level of the entry below it, or no level if there is none; with eight entries open nothing is (02, 3/12)
unfoldable pub marked : Aic → Aic
marked s = pick (ltb s.depth 8) (opened s 0 (level_below s.level s.depth)) s

-- the last entry is closed, mark or handler (02, 3/12)
unfoldable pub closed_last : Aic → Aic
closed_last s = with_handlers s (set s.source (s.depth - 1) 0) (set s.level (s.depth - 1) 0) (s.depth - 1)

-- a write of EOICR, of any value (003, 27.7.3.4 and 27.8.15): with no entry open it does nothing (01, AIC, Normal side)
unfoldable pub ended : Aic → Aic
ended s = pick (eqb s.depth 0) s (closed_last s)

-- the vector of source k
abbrev pub vector_at : Aic → ℕ → ℕ
vector_at s k = get_or s.vector k 0

-- a read of IVR outside protect mode: the candidate ahead of all others starts, at the priority that it has now; without one SPU, and a mark is opened
-- (003, 27.7.3.1, 27.7.3.4 and 27.8.5; 02, 3/12)
unfoldable pub ivr_taken : Aic → Answer
ivr_taken s =
    pick (candidates s)
    (answered (started_at s (chosen s) (priority s (chosen s))) (vector_at s (chosen s)))
    (answered (marked s) s.spurious)

-- what a read of IVR in protect mode remembers: source k, with the priority and the vector that it has now; or that there is none (02, 9/12)
abbrev pub source_seen : Aic → ℕ → Seen
source_seen s k = record { what = 1; source = k; level = priority s k; vector = vector_at s k }

abbrev pub none_seen : Seen
none_seen = record { what = 2; source = 0; level = 0; vector = 0 }

-- a read of IVR in protect mode: it answers the same, remembers what it answers for, and changes nothing else (02, 9/12; 003, 27.7.5)
unfoldable pub ivr_looked : Aic → Answer
ivr_looked s =
    pick (candidates s)
    (answered (with_seen s (source_seen s (chosen s))) (vector_at s (chosen s)))
    (answered (with_seen s none_seen) s.spurious)

-- a read of IVR: in protect mode it only looks; the mask plays no part (02, 9/12)
unfoldable pub ivr_read : Aic → Answer
ivr_read s = pick (protects s) (ivr_looked s) (ivr_taken s)

-- what is remembered is started, a source at the level that it was remembered at, its memory cleared if it is edge-triggered now, or a mark; and it
-- is forgotten; with nothing remembered nothing changes (02, 9/12)
unfoldable pub begun : Aic → Aic
begun s =
    pick (eqb s.seen.what 0) s
    (with_seen (pick (eqb s.seen.what 1) (started_at s s.seen.source s.seen.level) (marked s)) nothing_seen)

-- a write of IVR, of any value: outside protect mode it does nothing (02, 9/12; 003, 27.7.5)
unfoldable pub ivr_written : Aic → Aic
ivr_written s = pick (protects s) (begun s) s

-- what the fast vector read leaves: the memory of an edge-triggered source 0 cleared, unless some source is forced (003, 27.7.4.3 and 27.7.4.5)
unfoldable pub fast_spent : Aic → Aic
fast_spent s = pick (eqb s.forced 0) (spent s 0) s

-- a read of FVR: vector 0, whichever source asks; with no fast source that asks SPU, and nothing changes (003, 27.7.4.3, 27.7.4.5 and 27.8.6)
unfoldable pub fvr_read : Aic → Answer
fvr_read s = pick (fast_asks s) (answered (fast_spent s) (vector_at s 0)) (answered s s.spurious)

-- ISR: the source of the last entry, 0 if that is a mark or none is open (02, 3/12; 003, 27.8.7)
unfoldable pub current : Aic → ℕ
current s = pick (eqb s.depth 0) 0 (source_at s (s.depth - 1))
