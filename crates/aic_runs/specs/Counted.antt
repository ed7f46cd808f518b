-- What one step counts as, in the record that it meets: a start, a close, an edge, a set command, a rewrite (01, AIC, Pending and Normal side).
use Rattle.std.specs.Prelude.{ℕ, Bool, false, not, ◌&&◌, ◌||◌, eqb, ltb}
use Rattle.words.specs.Choice.{pick}
use Rattle.words.specs.Word.{bit}
use Rattle.steps.specs.declared.Step.{Step}
use Rattle.steps.specs.declared.Step.TheVariants.{Read, Write, Line}
use Rattle.steps.specs.Refusals.{carried_out}
use Rattle.aic_record.specs.declared.Aic.{Aic}
use Rattle.aic_record.specs.Mode.{priority, edge}
use Rattle.aic_record.specs.Sound.{protects}
use Rattle.aic_sources.specs.Normal.{waiting, chosen}
use Rattle.aic_registers.specs.Map.{svr, ivr, iscr, eoicr, ffer, ffdr}
use Rattle.aic_registers.specs.Effects.{turns}
use Rattle.aic.specs.Model.{step}

-- the controller refuses nothing of the step (01, Numbers)
unfoldable pub carried : Aic → Step → Bool
carried s x = eqb (step s x).refusal carried_out

-- a read of IVR outside protect mode that is carried out (01, AIC, Normal side)
unfoldable pub takes : Aic → Step → Bool
takes s (Read o) = carried s (Read o) && eqb o ivr && not (protects s)
takes s (Write o v) = false
takes s (Line k l) = false

-- a write of IVR in protect mode that is carried out, with something remembered (02, 9/12)
unfoldable pub begins : Aic → Step → Bool
begins s (Read o) = false
begins s (Write o v) = carried s (Write o v) && eqb o ivr && protects s && not (eqb s.seen.what 0)
begins s (Line k l) = false

-- a start: either of them, where it finds fewer than eight entries open, opens one, a handler or a mark
-- (01, AIC, Normal side; 02, 3/12 and 9/12; 003, 27.7.3.1 and 27.7.5)
unfoldable pub starts : Aic → Step → Bool
starts s x = (takes s x || begins s x) && ltb s.depth 8

-- the source whose handler the step starts, 32 where it opens a mark or nothing: a read starts the candidate ahead of all others, a write in
-- protect mode the source that is remembered (01, AIC, Normal side; 02, 9/12; 003, 27.7.3.1 and 27.7.5)
unfoldable pub started_by : Aic → Step → ℕ
started_by s x = pick (takes s x) (chosen s) (pick (begins s x && eqb s.seen.what 1) s.seen.source 32)

-- and at which level: at its priority then, or at the level that is remembered (02, 9/12)
unfoldable pub level_of : Aic → Step → ℕ
level_of s x = pick (takes s x) (priority s (chosen s)) s.seen.level

-- source i is remembered; a source other than k is (02, 9/12)
unfoldable pub recalls : ℕ → Aic → Bool
recalls i s = eqb s.seen.what 1 && eqb i s.seen.source

unfoldable pub carries : ℕ → Aic → Bool
carries k s = eqb s.seen.what 1 && not (eqb k s.seen.source)

-- a start of source i
unfoldable pub starts_of : ℕ → Aic → Step → Bool
starts_of i s x = eqb i (started_by s x)

-- a start of another source than k
unfoldable pub starts_other : ℕ → Aic → Step → Bool
starts_other k s x = ltb (started_by s x) 32 && not (starts_of k s x)

-- a start of another source than k that does not pass a test
unfoldable pub strays : (ℕ → Bool) → ℕ → Aic → Step → Bool
strays t k s x = starts_other k s x && not (t (started_by s x))

-- a close that finds an entry open, mark or handler: a write of EOICR, of any value (01, AIC, Normal side; 02, 3/12; 003, 27.8.15)
unfoldable pub closes : Aic → Step → Bool
closes s (Read o) = false
closes s (Write o v) = carried s (Write o v) && eqb o eoicr && not (eqb s.depth 0)
closes s (Line k l) = false

-- the line of source i turns from inactive to active, edge-triggered or not (01, AIC, Mode)
unfoldable pub rises : ℕ → Aic → Step → Bool
rises i s (Read o) = false
rises i s (Write o v) = false
rises i s (Line k l) = carried s (Line k l) && eqb i k && turns s k (eqb l 1)

-- an edge of source i: it is edge-triggered, and its line turns active (01, AIC, Pending)
unfoldable pub edges : ℕ → Aic → Step → Bool
edges i s x = rises i s x && edge s i

-- a set command to source i: one write of the set register is a command to each source whose bit is 1
-- (01, AIC, Pending; 003, 27.8.14)
unfoldable pub commands : ℕ → Aic → Step → Bool
commands i s (Read o) = false
commands i s (Write o v) = carried s (Write o v) && eqb o iscr && bit v i
commands i s (Line k l) = false

-- a write of a source mode, or of one of the registers that force and unforce sources (demand 3; 003, 27.8.3 and 27.7.4.5)
unfoldable pub rewrites : Aic → Step → Bool
rewrites s (Read o) = false
rewrites s (Write o v) = carried s (Write o v) && (ltb o svr || eqb o ffer || eqb o ffdr)
rewrites s (Line k l) = false

-- a step that rewrites no mode and no forcing
unfoldable pub steady : Aic → Step → Bool
steady s x = not (rewrites s x)

-- source k waits, pending, enabled and not fast, before a step that rewrites no mode and no forcing (demand 3)
unfoldable pub waits : ℕ → Aic → Step → Bool
waits k s x = waiting s k && steady s x
