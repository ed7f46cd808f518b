-- The bound on words, step by step, is the bound by its definition, for runs of up to 134,217,727 steps.
use Prim.Native.Nat.{ℕ, ◌+◌, ◌*◌, ◌≤◌}
use mathlib.Core.Path.{◌≡◌, refl, sym, ap, ◌∙◌}
use mathlib.Core.Bool.{Bool}
use mathlib.Core.List.{List, [], ◌∷◌}
use native.Mathlib.Omega.{arith}
use lib.Dec.{ltb}
use lib.ListN.{length}
use Rattle.words.specs.Choice.{pick}
use Rattle.words.specs.Counting.{one}
use Rattle.words.specs.Word.{bit, word_of, both, without}
use Rattle.words.proofs.CountingLaws.{count_le}
use Rattle.steps.specs.declared.Step.{Step}
use Rattle.aic_record.specs.declared.Aic.{Aic}
use Rattle.aic.specs.Model.{step}
use Rattle.aic_runs.specs.Counted.{edges}
use Rattle.aic_runs.specs.Runs.{sum_over}
use Rattle.aic_runs.specs.Turns.{closes_hot, due}
use Rattle.aic_waits.specs.Figures.{wait_after}
use Rattle.aic_waits.proofs.FigureLaws.{capped_is}
use Rattle.aic_bounds.specs.declared.Bound.{Bound}
use Rattle.aic_bounds.specs.Bounds.{sets, lifts, idle, rivals_of, enabled_of, fresh, grown, bound_next, bound_after, bound_over, bound_at}
use Rattle.aic_bounds.specs.Following.{dues, marks_of, plus, grown_by, bound_by, bound_followed}
use Rattle.aic_bounds.proofs.StepLaws.{step_cases}
use Rattle.aic_bounds.proofs.WordLaws.{shared_sum, due_sum}

-- ---- one step

shared_few : (a : ℕ) (f : ℕ → Bool) → sum_over (bit a) (λ i. one (f i)) ≤ 32
shared_few a f = omega (arith, shared_sum a f, count_le 32 (bit (both a (word_of 32 f))))

term_is : (n a : ℕ) (f : ℕ → Bool) → n + 32 ≤ 4294967295 → plus n a (word_of 32 f) ≡ n + sum_over (bit a) (λ i. one (f i))
term_is n a f l = rw (shared_sum a f) (sym (capped_is (n + sum_over (bit a) (λ i. one (f i))) (omega (arith, l, shared_few a f))))

-- the terms have room for m more
abbrev pub Room : Bound → ℕ → Type 0
Room b m =
    (b.pending + m ≤ 4294967295) × (b.edges + m ≤ 4294967295) × (b.commands + m ≤ 4294967295) × (b.turns + m ≤ 4294967295) × (b.closed + m ≤ 4294967295)

due-is : (n a : ℕ) (t : Aic) → n + 32 ≤ 4294967295 → plus n a (word_of 32 (dues t)) ≡ n + sum_over (bit a) (due t)
due-is n a t l =
    rw (due_sum a t) (sym (capped_is (n + sum_over (bit a) (due t)) (omega (arith, l, due_sum a t, count_le 32 (bit (both a (word_of 32 (dues t))))))))

grown-is : (w n : ℕ) (b : Bound) (s : Aic) (x : Step) → Room b 32 → grown_by w b n (marks_of s x) (step s x).aic ≡ grown w b n s x
grown-is w n b s x (p, e, c, t, h) =
    rw (
      due-is b.pending (without (enabled_of b.rivals (step s x).aic) b.on) (step s x).aic p,
      term_is b.edges b.on (λ i. edges i s x) e,
      term_is b.commands b.on (λ i. sets i s x) c,
      term_is b.turns b.on (λ i. lifts i s x) t,
      term_is b.closed b.on (λ i. closes_hot i s x) h,
    )

pub by-is : (k w n : ℕ) (b : Bound) (s : Aic) (x : Step) → Room b 32 → bound_by k w n b (marks_of s x) (step s x).aic ≡ bound_next k w n b s x
unfolding bound_by bound_next
by-is k w n b s x r = ap (λ (g : Bound). pick (ltb w 2) (idle w) (pick (ltb b.wait 2) (fresh k (step s x).aic) g)) (grown-is w n b s x r)

-- ---- a run

few-due : (a : ℕ) (t : Aic) → sum_over (bit a) (due t) ≤ 32
few-due a t = omega (arith, due_sum a t, count_le 32 (bit (both a (word_of 32 (dues t)))))

pub after-room : (k n : ℕ) (b : Bound) (s : Aic) (x : Step) (m : ℕ) → Room b (32 + m) → Room (bound_after k n b s x) m
after-room k n b s x m (p, e, c, t, h) =
    step_cases k n b s x (λ r. Room r m)
    (λ l. (omega (arith, e), omega (arith, e), omega (arith, e), omega (arith, e), omega (arith, e)))
    (λ l z. (
      omega (arith, e, few-due (enabled_of (rivals_of k (step s x).aic) (step s x).aic) (step s x).aic),
      omega (arith, e),
      omega (arith, e),
      omega (arith, e),
      omega (arith, e),
    ))
    (λ l o. (
      omega (arith, p, few-due (without (enabled_of b.rivals (step s x).aic) b.on) (step s x).aic),
      omega (arith, e, shared_few b.on (λ i. edges i s x)),
      omega (arith, c, shared_few b.on (λ i. sets i s x)),
      omega (arith, t, shared_few b.on (λ i. lifts i s x)),
      omega (arith, h, shared_few b.on (λ i. closes_hot i s x)),
    ))

pub less : (b : Bound) (m n : ℕ) → n ≤ m → Room b m → Room b n
less b m n l (p, e, c, t, h) = (omega (arith, p), omega (arith, e), omega (arith, c), omega (arith, t), omega (arith, h))

followed-is : (k n : ℕ) (b : Bound) (s : Aic) (xs : List Step) → Room b (32 * length xs) → bound_followed k n b s xs ≡ bound_over k n b s xs
unfolding bound_followed bound_over
followed-is k n b s [] r = refl
followed-is k n b s (x ∷ xs) r =
    ap (λ (g : Bound). bound_followed k (n + 1) g (step s x).aic xs)
    (by-is k (wait_after k b.wait s x) (n + 1) b s x (less b (32 * length (x ∷ xs)) 32 (omega arith) r))
    ∙ followed-is k (n + 1) (bound_after k (n + 1) b s x) (step s x).aic xs
    (after-room k (n + 1) b s x (32 * length xs) (less b (32 * length (x ∷ xs)) (32 + 32 * length xs) (omega arith) r))

pub followed_at : (s : Aic) (k : ℕ) (xs : List Step) → length xs ≤ 134217727 → bound_followed k 0 (idle 0) s xs ≡ bound_at k s xs
unfolding bound_at
followed_at s k xs l = followed-is k 0 (idle 0) s xs (omega (arith, l), omega (arith, l), omega (arith, l), omega (arith, l), omega (arith, l))
