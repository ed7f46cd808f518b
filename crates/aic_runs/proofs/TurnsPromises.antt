-- The promises of waiting behind level-sensitive sources, kept.
use Prim.Native.Nat.{ℕ, ◌<◌}
use mathlib.Core.Path.{◌≡◌, refl}
use mathlib.Core.Bool.{true, not, ◌||◌}
use mathlib.Core.List.{List}
use mathlib.Core.Logic.{◌≢◌, ⊎_elim}
use lib.Dec.{eqb}
use borrow.Author.Tests.{ne_eqb, not-true}
use Rattle.words.specs.Counting.{all_below}
use Rattle.words.proofs.TruthLaws.{or-either, clash}
use Rattle.words.proofs.CountingLaws.{all_at}
use Rattle.steps.specs.declared.Step.{Step}
use Rattle.aic_record.specs.declared.Aic.{Aic}
use Rattle.aic_sources.specs.Normal.{ahead}
use Rattle.aic_runs.specs.Runs.{always}
use Rattle.aic_runs.specs.Promises.{ahead_of, rival_of}
use Rattle.aic_runs.specs.Turns.{cool, Cool}
use Rattle.aic_runs.specs.TurnsWorked.{board, quieted, entered, rest, noisy, raised, twice}
use Rattle.aic_runs.specs.TurnsTables.{Steps}
use Rattle.aic_runs.specs.TurnsPromises.{Promises}
use Rattle.aic_runs.proofs.TurnsObserverLaws.{counts_of, dues_of, gathered}
use Rattle.aic_runs.proofs.TurnLaws.{per_source_any, gained-edge, gained_level, cool-by_itself, same-owed, same-due, sum_owed, sum-due, figures, bound-normal, bound-levels}
use Rattle.aic_runs.proofs.TurnsWorked.{quieted_computed, held_computed, noisy_computed, twice_computed}

-- what is computed of all 32 sources holds of each
cool-ahead : (s : Aic) (xs : List Step) → all_below 32 (λ j. not (ahead s j 9) || always (cool j) s xs) ≡ true → Cool s (ahead_of s 9) xs
cool-ahead s xs t i l a =
    ⊎_elim (λ (h : not (ahead s i 9) ≡ true). clash a (not-true (ahead s i 9) h)) (λ (h : always (cool i) s xs ≡ true). h)
    (or-either (not (ahead s i 9)) (always (cool i) s xs) (all_at 32 (λ j. not (ahead s j 9) || always (cool j) s xs) t i l))

cool-others : (s : Aic) (xs : List Step) → all_below 32 (λ j. eqb j 4 || always (cool j) s xs) ≡ true → (i : ℕ) → i < 32 → i ≢ 4 → always (cool i) s xs ≡ true
cool-others s xs t i l d =
    ⊎_elim (λ (h : eqb i 4 ≡ true). clash h (ne_eqb i 4 d)) (λ (h : always (cool i) s xs ≡ true). h)
    (or-either (eqb i 4) (always (cool i) s xs) (all_at 32 (λ j. eqb j 4 || always (cool j) s xs) t i l))

steps_worked : Steps
unfolding board quieted entered rest noisy raised twice
steps_worked = record { board_is = refl; quieted_is = refl; entered_is = refl; rest_is = refl; noisy_is = refl; raised_is = refl; twice_is = refl }

pub kept : Promises
kept =
    record {
      counts = counts_of;
      dues = dues_of;
      gathers = gathered;
      worked = steps_worked;
      per_source_any = per_source_any;
      bound_levels = bound-levels;
      bound_figures = figures;
      bound_levels_normal = bound-normal;
      bound_edges = gained-edge;
      bound_turns = gained_level;
      bound_same = λ s k xs a e. (cool-by_itself s (ahead_of s k) xs a e, same-owed s (ahead_of s k) xs a e, sum_owed s (ahead_of s k) xs a e);
      bound_same_normal = λ s k xs a e. (cool-by_itself s (rival_of s k) xs a e, same-due s (rival_of s k) xs a e, sum-due s (rival_of s k) xs a e);
      levels_met = (
        quieted_computed.waited,
        cool-ahead board quieted quieted_computed.cooled,
        quieted_computed.level,
        quieted_computed.edged,
        quieted_computed.first,
        quieted_computed.second,
        quieted_computed.started,
        quieted_computed.allowed,
        quieted_computed.carried,
      );
      levels_parts = (
        quieted_computed.pended,
        quieted_computed.edges,
        quieted_computed.commanded,
        quieted_computed.turned,
        quieted_computed.four,
        quieted_computed.six,
        quieted_computed.closed,
        quieted_computed.left,
      );
      held_met = (
        held_computed.waited,
        cool-ahead entered rest held_computed.cooled,
        held_computed.started,
        held_computed.less,
        held_computed.allowed,
        held_computed.carried,
      );
      levels_needed = (
        noisy_computed.waited,
        noisy_computed.hot,
        cool-others board noisy noisy_computed.others,
        noisy_computed.started,
        noisy_computed.allowed,
        quieted_computed.carried,
      );
      twice_met = (
        twice_computed.waited,
        cool-ahead raised twice twice_computed.cooled,
        twice_computed.started,
        twice_computed.allowed,
        twice_computed.carried,
      );
    }
