-- Four runs from reset, worked through: eight handlers open at once, eight marks, a source that waits as long as the bound allows, and one that
-- waits for what is remembered.
use Rattle.std.specs.Prelude.{ℕ, zero, suc, ◌+◌, ◌*◌, ◌^◌, List, [], ◌∷◌, ◌++◌}
use Rattle.steps.specs.declared.Step.{Step}
use Rattle.steps.specs.declared.Step.TheVariants.{Read, Write, Line}
use Rattle.aic_record.specs.declared.Aic.{Aic}
use Rattle.aic_record.specs.Record.{reset}
use Rattle.aic_registers.specs.Map.{ivr, iecr, iscr, eoicr, dcr}
use Rattle.aic_runs.specs.Runs.{run}

-- source k is made edge-triggered (type 3) at priority p, and enabled
unfoldable pub ready : ℕ → ℕ → List Step
ready k p = Write (k * 4) (0x60 + p) ∷ Write iecr (2 ^ k) ∷ []

-- n handlers: source 1 at priority 0 has an edge and is started, then source 2 at priority 1, and so on, and none is closed
unfoldable pub tower : ℕ → List Step
tower zero = []
tower (suc n) = tower n ++ (ready (n + 1) n ++ (Line (n + 1) 1 ∷ Read ivr ∷ []))

-- eight vector reads with nothing pending open eight marks; then source 1 at priority 7 has an edge
unfoldable pub crowded : Aic
crowded =
    run (reset 0 0)
    (Read ivr ∷ Read ivr ∷ Read ivr ∷ Read ivr ∷ Read ivr ∷ Read ivr ∷ Read ivr ∷ Read ivr ∷ (ready 1 7 ++ (Line 1 1 ∷ [])))

-- source 4 at priority 5 and source 9 at priority 3 are pending, source 6 at priority 4 is not yet
unfoldable pub outset : Aic
outset = run (reset 0 0) (ready 4 5 ++ (ready 6 4 ++ (ready 9 3 ++ (Line 4 1 ∷ Line 9 1 ∷ []))))

-- source 9 waits all the while, and four handlers are started; steps that count for nothing stand among the others
unfoldable pub wait : List Step
wait =
    -- 4 is started; 6 has an edge, and its line put high once more is no second one; 6 is not above 4, so a vector read opens a mark
    Read ivr ∷ Line 6 1 ∷ Line 6 1 ∷ Read ivr ∷ Write eoicr 0
    -- the mark is closed; 4 is closed and 6 is started, then closed; a close with none open counts for nothing
    ∷ Write eoicr 0 ∷ Read ivr ∷ Write eoicr 0 ∷ Write eoicr 0
    -- one write commands 4 and 6; a read that is refused; 4 is started once more, and after its close 6
    ∷ Write iscr (2 ^ 4 + 2 ^ 6) ∷ Read (ivr + 1) ∷ Read ivr ∷ Write eoicr 0 ∷ Read ivr ∷ []

-- in protect mode source 2 at priority 1 is remembered, then source 9 at priority 3 is pending (02, 9/12)
unfoldable pub stale : Aic
stale = run (reset 0 0) (ready 2 1 ++ (ready 9 3 ++ (Write dcr 1 ∷ Line 2 1 ∷ Read ivr ∷ Line 9 1 ∷ [])))

-- the write starts source 2, though 9 is ahead of it; after its close 9 is looked at, and waits on: the edge that it remembers stays when its line falls
unfoldable pub stale_wait : List Step
stale_wait = Write ivr 0 ∷ Write eoicr 0 ∷ Read ivr ∷ Line 9 0 ∷ []
