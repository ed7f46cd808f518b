-- Runs from reset in which source 9 waits, worked through: it is edge-triggered at priority 3.
use Rattle.std.specs.Prelude.{List, [], ◌∷◌, ◌++◌}
use Rattle.steps.specs.declared.Step.{Step}
use Rattle.steps.specs.declared.Step.TheVariants.{Read, Write, Line}

-- 4 is level-sensitive at priority 5; 6 and 9 are edge-triggered (type 3) at priorities 4 and 3; 4 is pending, then 9: its wait begins with step 6
unfoldable pub begun : List Step
begun = Write 0x10 0x05 ∷ Write 0x18 0x64 ∷ Write 0x24 0x63 ∷ Write 0x120 0x250 ∷ Line 4 1 ∷ Line 9 1 ∷ []

-- 4 is started; 6 has an edge; the line of 4 falls before its close; 6 is started and closed, commanded, started and closed; the line of 4 turns active
-- again, and it is started
unfoldable pub met : List Step
met =
    begun
    ++ (Read 0x100 ∷ Line 6 1 ∷ Line 4 0 ∷ Write 0x130 0 ∷ Read 0x100 ∷ Write 0x130 0 ∷ Write 0x12C 0x40 ∷ Read 0x100 ∷ Write 0x130 0 ∷ Line 4 1 ∷ Read 0x100 ∷ [])

-- 4 is started, closed with its line active, and started once more
unfoldable pub noisy : List Step
noisy = begun ++ (Read 0x100 ∷ Write 0x130 0 ∷ Read 0x100 ∷ [])

-- 2 is pending at priority 0, and 9 waits: nothing is ahead of it; then 2 is given priority 7, by step 6, and is started; 9 is started behind it; 2 has
-- an edge again, and 9 waits once more
unfoldable pub raised : List Step
raised =
    Write 0x08 0x60 ∷ Write 0x24 0x63 ∷ Write 0x120 0x204 ∷ Line 2 1 ∷ Line 9 1 ∷ Write 0x08 0x67 ∷ Read 0x100 ∷ Write 0x130 0 ∷ Read 0x100 ∷ Line 2 0 ∷ Line 2 1
    ∷ Line 9 0 ∷ Line 9 1 ∷ []

-- in protect mode 2, at priority 1, is remembered, then 9 waits; the write starts 2
unfoldable pub stale : List Step
stale = Write 0x08 0x61 ∷ Write 0x24 0x63 ∷ Write 0x120 0x204 ∷ Write 0x138 1 ∷ Line 2 1 ∷ Read 0x100 ∷ Line 9 1 ∷ Write 0x100 0 ∷ []

-- 3 is edge-triggered at priority 7, and off; it has an edge, then 9 waits
unfoldable pub behind : List Step
behind = Write 0x0C 0x67 ∷ Write 0x24 0x63 ∷ Write 0x120 0x200 ∷ Line 3 1 ∷ Line 9 1 ∷ []

-- 3 has two edges more, for nothing
unfoldable pub off : List Step
off = behind ++ (Line 3 0 ∷ Line 3 1 ∷ Line 3 0 ∷ Line 3 1 ∷ [])

-- 3 has an edge more, is enabled, started and closed, has another edge, and is started again
unfoldable pub midway : List Step
midway = behind ++ (Line 3 0 ∷ Line 3 1 ∷ Write 0x120 0x08 ∷ Read 0x100 ∷ Write 0x130 0 ∷ Line 3 0 ∷ Line 3 1 ∷ Read 0x100 ∷ [])
