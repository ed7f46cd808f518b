-- One run from reset, worked through: a level-sensitive source that is served with its line still high, a wait that never ends, entries below, marks, and
-- a source that is fast for a while.
use Rattle.std.specs.Prelude.{List, [], ◌∷◌}
use Rattle.steps.specs.declared.Step.{Step}
use Rattle.steps.specs.declared.Step.TheVariants.{Read, Write, Line}

-- 2 is level-sensitive at priority 3; 4, 7 and 9 are edge-triggered (type 3) at priorities 5, 1 and 0; 9 is forced to the fast side
unfoldable pub busy : List Step
busy =
    Write 0x08 0x03 ∷ Write 0x10 0x65 ∷ Write 0x1C 0x61 ∷ Write 0x24 0x60 ∷ Write 0x140 0x200 ∷ Write 0x120 0x294
    -- 9 is pending and enabled, but fast; 7 waits from here on, and 2
    ∷ Line 9 1 ∷ Line 7 1 ∷ Line 2 1
    -- 2 is started, and its line stays high: it is served; 4 waits, and is started above it; a vector read finds nothing above 4: a mark, three entries
    ∷ Read 0x100 ∷ Line 4 1 ∷ Read 0x100 ∷ Read 0x100
    -- all are closed; 2 is started again, though it did not wait, and is closed
    ∷ Write 0x130 0 ∷ Write 0x130 0 ∷ Write 0x130 0 ∷ Read 0x100 ∷ Write 0x130 0
    -- the line of 2 falls and rises: it waits anew; 4 has another edge, and is started while 2 waits
    ∷ Line 2 0 ∷ Line 2 1 ∷ Line 4 0 ∷ Line 4 1 ∷ Read 0x100
    -- another mark: two entries; a read that is refused; 9 is fast no more, and begins to wait
    ∷ Read 0x100 ∷ Read 0x101 ∷ Write 0x144 0x200 ∷ []
