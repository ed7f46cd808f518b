-- The promises of the sources, kept.
use Prim.Native.Nat.{ℕ, ◌<◌, ◌≤◌}
use mathlib.Core.Path.{◌≡◌, ap}
use mathlib.Core.Bool.{true, false, not, and-false}
use mathlib.Core.Logic.{◌↔◌, ◌⊎◌, inl, inr, ⊎_elim}
use native.Mathlib.Omega.{arith}
use lib.Dec.{eqb}
use borrow.Author.Tests.{lt-ltb, le-ltb, not-true, eqb-true, eq-eqb}
use Rattle.words.specs.Choice.{pick}
use Rattle.words.specs.Word.{bit}
use Rattle.words.proofs.TruthLaws.{and_left, and_right, and_both, or_left, or_right, or-either, not-holds}
use Rattle.words.proofs.CountingLaws.{any_some, some_any, any_none}
use Rattle.words.proofs.WordLaws.{word_of_lt, bit-word_of}
use Rattle.aic_record.specs.declared.Aic.{Aic}
use Rattle.aic_record.specs.Mode.{kind}
use Rattle.aic_sources.specs.Pending.{active_low, active_at, active, pending, pending_word}
use Rattle.aic_sources.specs.Fast.{fast, fast_asks, masked, fiq}
use Rattle.aic_sources.specs.Normal.{candidate, candidates, irq}
use Rattle.aic_sources.specs.Promises.{SomeCandidate, Promises}
use Rattle.aic_sources.proofs.FastLaws.{fast-some, some-fast}
use Rattle.aic_sources.proofs.OrderLaws.{ahead-is, is-ahead, ahead_irreflexive, ahead_transitive, ahead_total, chosen_is, chosen-one, chosen_none}
use Rattle.aic_sources.proofs.HandlerLaws.{candidate-over, candidate-waits, waiting-is, is-candidate, candidate-room}

some : (s : Aic) → SomeCandidate s → candidates s ≡ true
unfolding candidates
some s (k, l, c) = some_any 32 (candidate s) k l c

irq-is : (s : Aic) → (irq s ≡ true) ↔ ((bit s.debug 1 ≡ false) × SomeCandidate s)
unfolding irq candidates masked
irq-is s = (
  λ e. (not-true (masked s) (and_left _ (candidates s) e), any_some 32 (candidate s) (and_right (not (masked s)) _ e)),
  λ p. and_both (ap not p.0) (some s p.1),
)

fiq-is : (s : Aic) → (fiq s ≡ true)
    ↔ ((bit s.debug 1 ≡ false) × ((k : ℕ) × (k < 32) × (fast s k ≡ true) × (pending s k ≡ true) × (bit s.enabled k ≡ true)))
unfolding fiq masked
fiq-is s = (
  λ e. (not-true (masked s) (and_left _ (fast_asks s) e), fast-some s (and_right (not (masked s)) _ e)),
  λ (m, (k, l, f, p, e)). and_both (ap not m) (some-fast s k l f p e),
)

fast-is : (s : Aic) (k : ℕ) → (fast s k ≡ true) ↔ ((k ≡ 0) ⊎ (bit s.forced k ≡ true))
unfolding fast
fast-is s k = (
  λ e. ⊎_elim (λ (z : eqb k 0 ≡ true). inl (eqb-true k 0 z)) inr (or-either (eqb k 0) (bit s.forced k) e),
  ⊎_elim (λ (z : k ≡ 0). or_left (bit s.forced k) (eq-eqb k 0 z)) (or_right (eqb k 0)),
)

low-active : (s : Aic) (k : ℕ) → bit s.external k ≡ true → kind s k < 2 → active s k ≡ not (bit s.lines k)
unfolding active active_at active_low pick
low-active s k e l = rw (e, lt-ltb (kind s k) 2 l)

high-active : (s : Aic) (k : ℕ) → (bit s.external k ≡ false) ⊎ (2 ≤ kind s k) → active s k ≡ bit s.lines k
unfolding active active_at active_low pick
high-active s k (inl e) = rw e
high-active s k (inr l) = rw (le-ltb (kind s k) 2 l, and-false (bit s.external k))

pub kept : Promises
unfolding pending_word pending pick
kept =
    record {
      edge_pending = λ s k e. rw e;
      level_pending = λ s k e. rw e;
      low_active = low-active;
      high_active = high-active;
      irq_is = irq-is;
      fiq_is = fiq-is;
      fast_is = fast-is;
      candidate_is = λ s k. (
        λ c. let w = waiting-is s k (candidate-waits s k c) in (w.0, w.1, w.2, candidate-room s k c, candidate-over s k c),
        λ (p, e, f, l, o). is-candidate s k p e f l o,
      );
      chosen_is = λ s h. let f = chosen_is s (some s h) in (f.below, f.fit, f.first);
      chosen_one = λ s k l c h. chosen-one s k (record { below = l; fit = c; first = h });
      chosen_none = λ s h. unfold candidates in (chosen_none s (any_none 32 (candidate s) h));
      ahead_is = λ s a b. (ahead-is s a b, is-ahead s a b);
      ahead_never = ahead_irreflexive;
      ahead_through = ahead_transitive;
      ahead_either = ahead_total;
      room = λ s h k. not-holds (candidate s k) (λ c. omega (arith, candidate-room s k c));
      ipr_bit = λ s k l. bit-word_of 32 (pending s) k l;
      ipr_below = λ s. word_of_lt 32 (pending s);
    }
