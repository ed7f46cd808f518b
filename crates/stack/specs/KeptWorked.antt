-- One table and three runs from reset, worked through: a start-up, a run that keeps the table though it writes modes and a forcing, and one that
-- does not keep it.
use Rattle.std.specs.Prelude.{List, [], ◌∷◌, ◌++◌, set, replicate}
use Rattle.steps.specs.declared.Step.{Step}
use Rattle.steps.specs.declared.Step.TheVariants.{Read, Write, Line}
use Rattle.stack.specs.declared.Table.{Table}

-- sources 1 and 2 are edge-triggered (type 3) at priorities 2 and 5, with frames of 100 and 200 bytes; source 3 is forced, and bit 0 of the forced word,
-- which is ignored, is set; a mark takes nothing
unfoldable pub pair : Table
pair =
    record {
      priority = set (set (replicate 32 0) 1 2) 2 5;
      kind = set (set (replicate 32 0) 1 3) 2 3;
      forced = 0x09;
      frame = set (set (replicate 32 0) 1 100) 2 200;
      mark = 0;
    }

-- the modes of 1 and 2 and the forcing of 3 are written, one by one, then sources 0 to 3 are enabled; 1 has an edge, and its handler is started
unfoldable pub start_up : List Step
start_up = Write 0x04 0x62 ∷ Write 0x08 0x65 ∷ Write 0x140 0x08 ∷ Write 0x120 0x0F ∷ Line 1 1 ∷ Read 0x100 ∷ []

-- then, with its handler open, 1 is turned off, its mode is written anew, and 1 is forced; 2 has an edge, and is started over it
unfoldable pub shifted : List Step
shifted = start_up ++ (Write 0x124 0x02 ∷ Write 0x04 0x67 ∷ Write 0x140 0x02 ∷ Line 2 1 ∷ Read 0x100 ∷ [])

-- or 2 is started over it, and 1 has another edge
unfoldable pub stacked : List Step
stacked = start_up ++ (Line 2 1 ∷ Read 0x100 ∷ Line 1 0 ∷ Line 1 1 ∷ [])

-- and then 1, which is on, is given priority 7 for as long as one read of IVR
unfoldable pub raised : List Step
raised = stacked ++ (Write 0x04 0x67 ∷ Read 0x100 ∷ Write 0x04 0x62 ∷ [])
