-- The promises of the bound of a wait, kept.
use Prim.Native.Nat.{ℕ}
use mathlib.Core.Path.{◌≡◌, ap}
use mathlib.Core.Bool.{true, false, not}
use mathlib.Core.List.{List}
use mathlib.Core.Logic.{◌↔◌}
use native.Mathlib.Omega.{arith}
use borrow.Author.Tests.{not-true}
use Rattle.words.proofs.TruthLaws.{and_left, and_right, and_both}
use Rattle.steps.specs.declared.Step.{Step}
use Rattle.aic_record.specs.declared.Aic.{Aic}
use Rattle.aic_record.specs.Mode.{edge}
use Rattle.aic_runs.specs.Counted.{rises, commands}
use Rattle.aic_waits.specs.Figures.{standing}
use Rattle.aic_bounds.specs.Bounds.{sets, lifts, bound_at, idle}
use Rattle.aic_bounds.specs.Promises.{Promises}
use Rattle.aic_bounds.proofs.StepLaws.{over-wait}
use Rattle.aic_bounds.proofs.TermLaws.{terms_of, bounded_of, same-figure, wait_where, every-moment, broke_at}
use Rattle.aic_bounds.proofs.MostLaws.{most-reached, most-largest, fewer_unbounded, seen-bounded}
use Rattle.aic_bounds.proofs.PlaceLaws.{begun-none, begun_more, begun-same, unended-one, unended-none, first-none, first-is}
use Rattle.aic_bounds.proofs.FollowLaws.{followed_at}
use Rattle.aic_bounds.proofs.BestLaws.{largest_sum, largest-none, largest-first}
use Rattle.aic_bounds.proofs.MarkLaws.{marks-is}
use Rattle.aic_bounds.proofs.Worked.{worked}

sets-is : (i : ℕ) (s : Aic) (x : Step) → (sets i s x ≡ true) ↔ ((commands i s x ≡ true) × (edge s i ≡ true))
unfolding sets
sets-is i s x = (λ h. (and_left (commands i s x) _ h, and_right (commands i s x) _ h), λ (c, e). and_both c e)

lifts-is : (i : ℕ) (s : Aic) (x : Step) → (lifts i s x ≡ true) ↔ ((rises i s x ≡ true) × (edge s i ≡ false))
unfolding lifts
lifts-is i s x = (λ h. (and_left (rises i s x) _ h, not-true (edge s i) (and_right (rises i s x) _ h)), λ (c, e). and_both c (ap not e))

wait-is : (s : Aic) (k : ℕ) (xs : List Step) → (bound_at k s xs).wait ≡ standing k 0 s xs
unfolding bound_at
wait-is s k xs = over-wait k 0 (idle 0) s xs

pub kept : Promises
kept =
    record {
      sets_is = sets-is;
      lifts_is = lifts-is;
      wait_is = wait-is;
      wait_where = wait_where;
      terms = λ s k before x during w. terms_of k s before x during w;
      broke_at = broke_at;
      marks_is = marks-is;
      followed_is = followed_at;
      bounded = λ s k before x during h l w q. bounded_of k s before x during h l w q;
      every_moment = every-moment;
      same_figure = λ s k before x during w a c. same-figure k s before x during w a c;
      most_reached = most-reached;
      most_largest = most-largest;
      most_bounds = λ s k xs before x during after h l w q.
          omega (arith, bounded_of k s before x during h l w.waits q, most-largest s k xs before x during after w q);
      largest_sum = largest_sum;
      largest_none = largest-none;
      largest_first = largest-first;
      begun_none = begun-none;
      begun_more = begun_more;
      begun_same = begun-same;
      unended_one = unended-one;
      unended_none = unended-none;
      fewer_unbounded = fewer_unbounded;
      first_none = first-none;
      first_is = first-is;
      seen_bounded = λ s k xs h l q. seen-bounded s k h l xs q;
      worked_met = worked.met;
      worked_noisy = worked.noisy;
      worked_raised = worked.raised;
      worked_stale = worked.stale;
      worked_midway = worked.midway;
      worked_off = worked.off;
    }
