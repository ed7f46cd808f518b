-- Runs from reset, worked through: a level-sensitive source ahead that is quieted before each close, one that is not, and one that is remembered.
use Rattle.std.specs.Prelude.{◌+◌, ◌*◌, ◌^◌, List, [], ◌∷◌}
use Rattle.steps.specs.declared.Step.{Step}
use Rattle.steps.specs.declared.Step.TheVariants.{Read, Write, Line}
use Rattle.aic_record.specs.declared.Aic.{Aic}
use Rattle.aic_record.specs.Record.{reset}
use Rattle.aic_registers.specs.Map.{ivr, iecr, iscr, eoicr, dcr}
use Rattle.aic_runs.specs.Runs.{run}

-- source 4, level-sensitive at priority 5, has its line active; source 6, edge-triggered at priority 4, is not pending; source 9, edge-triggered at
-- priority 3, is pending (type 2 is 0x40, type 3 is 0x60)
unfoldable pub board : Aic
board =
    run (reset 0 0)
    (Write (4 * 4) (0x40 + 5) ∷ Write (6 * 4) (0x60 + 4) ∷ Write (9 * 4) (0x60 + 3) ∷ Write iecr (2 ^ 4 + 2 ^ 6 + 2 ^ 9) ∷ Line 4 1 ∷ Line 9 1 ∷ [])

-- source 9 waits all the while, four handlers are started, and the line of 4 is inactive whenever a handler of it is closed
unfoldable pub quieted : List Step
quieted =
    -- 4 is started; a vector read that finds no candidate opens a mark, and its close is not one of 4, though the line of 4 is active
    Read ivr ∷ Read ivr ∷ Write eoicr 0
    -- 4 is quieted; 6 has an edge; 4 is closed, and 6 is started
    ∷ Line 4 0 ∷ Line 6 1 ∷ Write eoicr 0 ∷ Read ivr
    -- the line of 4 turns active, and put high once more it does not turn; 4 is started over 6, quieted and closed; 6 is closed while its line is high
    ∷ Line 4 1 ∷ Line 4 1 ∷ Read ivr ∷ Line 4 0 ∷ Write eoicr 0 ∷ Write eoicr 0
    -- one write sets 6, and does nothing to 4; 6 is started and closed
    ∷ Write iscr (2 ^ 4 + 2 ^ 6) ∷ Read ivr ∷ Write eoicr 0 ∷ []

-- the same from the first start on, with the handler of 4 open from before the wait
unfoldable pub entered : Aic
entered = run board (Read ivr ∷ [])

unfoldable pub rest : List Step
rest =
    Read ivr ∷ Write eoicr 0 ∷ Line 4 0 ∷ Line 6 1 ∷ Write eoicr 0 ∷ Read ivr ∷ Line 4 1 ∷ Line 4 1 ∷ Read ivr ∷ Line 4 0 ∷ Write eoicr 0 ∷ Write eoicr 0
    ∷ Write iscr (2 ^ 4 + 2 ^ 6) ∷ Read ivr ∷ Write eoicr 0 ∷ []

-- the line of 4 is active when its handler is closed: it is started twice, though it was pending once and its line never turned
unfoldable pub noisy : List Step
noisy = Read ivr ∷ Write eoicr 0 ∷ Read ivr ∷ []

-- in protect mode source 4, level-sensitive at priority 5, is remembered, then its priority is made 6; source 9, edge-triggered at priority 3, is pending
unfoldable pub raised : Aic
raised =
    run (reset 0 0)
    (Write (4 * 4) (0x40 + 5) ∷ Write (9 * 4) (0x60 + 3) ∷ Write iecr (2 ^ 4 + 2 ^ 9) ∷ Write dcr 1 ∷ Line 4 1 ∷ Read ivr ∷ Write (4 * 4) (0x40 + 6) ∷ Line 9 1 ∷ [])

-- 4 is started at the level that is remembered, looked at, and started on top of that at its priority
unfoldable pub twice : List Step
twice = Write ivr 0 ∷ Read ivr ∷ Write ivr 0 ∷ []
