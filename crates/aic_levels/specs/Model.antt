-- A record with its levels beside it: start, step and outputs (02, 5/12).
use Rattle.std.specs.Prelude.{ℕ, false, not, ◌&&◌, ltb}
use Rattle.words.specs.Choice.{pick}
use Rattle.steps.specs.declared.Step.{Step}
use Rattle.steps.specs.Refusals.{carried_out, unsound}
use Rattle.aic_record.specs.declared.Aic.{Aic}
use Rattle.aic_record.specs.Sound.{sound}
use Rattle.aic_sources.specs.Fast.{masked, fiq}
use Rattle.aic.specs.declared.Signals.{Signals}
use Rattle.aic.specs.Model as aic
use Rattle.aic_levels.specs.declared.Levels.{Levels}
use Rattle.aic_levels.specs.declared.Begun.{Begun}
use Rattle.aic_levels.specs.declared.Answer.{Answer}
use Rattle.aic_levels.specs.Levels.{levels_of, agrees, chosen_by}

-- the record after reset, with its levels (01, AIC, Configuration)
unfoldable pub start : ℕ → ℕ → Begun
start external lines =
    record { refusal = (aic.start external lines).refusal; aic = (aic.start external lines).aic; levels = levels_of (aic.start external lines).aic }

-- a step: what the record alone answers, and the levels of the record after it; 12 where the record is not sound or the levels are not its own,
-- and then both are as they were (02, 5/12)
unfoldable pub step_with : Aic → Levels → Step → Answer
step_with s l x =
    pick (sound s && agrees s l)
    (record { refusal = (aic.step s x).refusal; value = (aic.step s x).value; aic = (aic.step s x).aic; levels = levels_of (aic.step s x).aic })
    (record { refusal = unsound; value = 0; aic = s; levels = l })

-- the outputs, IRQ by the levels; 12 in the same two cases (02, 5/12)
unfoldable pub outputs_with : Aic → Levels → Signals
outputs_with s l =
    pick (sound s && agrees s l)
    (record { refusal = carried_out; irq = not (masked s) && ltb (chosen_by s l) 32; fiq = fiq s; entries = s.depth })
    (record { refusal = unsound; irq = false; fiq = false; entries = 0 })
