-- The promises of the steps of a machine, kept.
use mathlib.Core.Path.{sym}
use Rattle.kinds.proofs.KindLaws.{at-unknown}
use Rattle.machine.specs.Steps.{step}
use Rattle.machine.specs.Promises.{Promises}
use Rattle.machine.proofs.StepLaws.{aic_steps, core_steps, cic_steps, aintc_steps, indexed_steps, indexed-off, step-ready, step-kind, refused-same, twelve}

pub kept : Promises
unfolding step
kept =
    record {
      aic_steps = aic_steps;
      core_steps = core_steps;
      cic_steps = cic_steps;
      aintc_steps = aintc_steps;
      indexed_steps = indexed_steps;
      indexed_off = indexed-off;
      no_steps = λ m x h. sym (at-unknown m.kind _ h);
      step_ready = step-ready;
      step_kind = step-kind;
      refused_same = refused-same;
      twelve = twelve;
    }
