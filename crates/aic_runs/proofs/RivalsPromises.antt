-- The promises of what is started while a source waits, kept.
use Prim.Native.Nat.{ℕ, ◌+◌, ◌≤◌, ◌<◌}
use mathlib.Core.Path.{◌≡◌, refl}
use mathlib.Core.Bool.{true, false}
use mathlib.Core.List.{List}
use Rattle.words.specs.Counting.{one}
use Rattle.steps.specs.declared.Step.{Step}
use Rattle.aic_record.specs.declared.Aic.{Aic}
use Rattle.aic_record.specs.Promises.{Shaped}
use Rattle.aic_sources.specs.Fast.{fast}
use Rattle.aic_runs.specs.Counted.{recalls, starts_of, steady}
use Rattle.aic_runs.specs.Runs.{count, always}
use Rattle.aic_runs.specs.Turns.{closes_hot, gained, due}
use Rattle.aic_runs.specs.Rivals.{chances, allowed}
use Rattle.aic_runs.specs.RivalsPromises.{Promises}
use Rattle.aic_runs.proofs.HotLaws.{per_source_hot, bound_hot}
use Rattle.aic_runs.proofs.OnLaws.{once-first, once-later, once_never, off_law, per_source_on, bound_on, same-levels}
use Rattle.aic_runs.proofs.RivalsWorked.{worked}

chances-is : (i : ℕ) (s : Aic) (xs : List Step) → chances i s xs ≡ due s i + gained i s xs + count (closes_hot i) s xs
unfolding chances
chances-is i s xs = refl

on-allowed : (s : Aic) (i : ℕ) (xs : List Step) → Shaped s → i < 32 → fast s i ≡ false → always steady s xs ≡ true
    → count (starts_of i) s xs ≤ allowed i s xs + one (recalls i s)
unfolding allowed
on-allowed s i xs h l f a = per_source_on i l s xs h f a

pub kept : Promises
kept =
    record {
      chances_is = chances-is;
      once_first = once-first;
      once_later = once-later;
      once_never = once_never;
      per_source_hot = per_source_hot;
      off_none = off_law;
      per_source_on = on-allowed;
      bound_hot = bound_hot;
      bound_on = bound_on;
      same_levels = same-levels;
      worked_noisy = worked.noisy;
      worked_off = worked.off;
      worked_midway = worked.midway;
    }
