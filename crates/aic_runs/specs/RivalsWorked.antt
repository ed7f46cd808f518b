-- Three stretches in which source 9 waits, worked through: behind a handler that is closed while its line is active, behind a source that is enabled
-- midway, and behind one that is never enabled.
use Rattle.std.specs.Prelude.{List, [], ◌∷◌}
use Rattle.steps.specs.declared.Step.{Step}
use Rattle.steps.specs.declared.Step.TheVariants.{Read, Write, Line}

-- 4 is level-sensitive at priority 5, 9 edge-triggered (type 3) at priority 3; both are enabled; 4 is pending, then 9
unfoldable pub begun : List Step
begun = Write 0x10 0x05 ∷ Write 0x24 0x63 ∷ Write 0x120 0x210 ∷ Line 4 1 ∷ Line 9 1 ∷ []

-- 4 is started, closed with its line active, and started once more
unfoldable pub noisy : List Step
noisy = Read 0x100 ∷ Write 0x130 0 ∷ Read 0x100 ∷ []

-- 3 is edge-triggered at priority 7, and off; it has an edge, then 9 waits
unfoldable pub behind : List Step
behind = Write 0x0C 0x67 ∷ Write 0x24 0x63 ∷ Write 0x120 0x200 ∷ Line 3 1 ∷ Line 9 1 ∷ []

-- 3 has two edges more, for nothing
unfoldable pub off : List Step
off = Line 3 0 ∷ Line 3 1 ∷ Line 3 0 ∷ Line 3 1 ∷ []

-- 3 has an edge more, is enabled, started and closed, has another edge, and is started again
unfoldable pub midway : List Step
midway = Line 3 0 ∷ Line 3 1 ∷ Write 0x120 0x08 ∷ Read 0x100 ∷ Write 0x130 0 ∷ Line 3 0 ∷ Line 3 1 ∷ Read 0x100 ∷ []
