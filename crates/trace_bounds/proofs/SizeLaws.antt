-- How long the lines of a trace are at most.
use Prim.Native.Nat.{ℕ, ◌+◌, ◌-◌, ◌*◌, ◌^◌, ◌≤◌, ◌<◌}
use mathlib.Core.Bool.{Bool, true, false, ◌&&◌}
use mathlib.Core.List.{List, [], ◌∷◌}
use native.Mathlib.Omega.{arith}
use native.Mathlib.Decide.{dec_lt}
use lib.Dec.{eqb, ltb}
use lib.ListN.{length, length-append}
use borrow.Author.Tests.{lt-ltb, le-ltb}
use Rattle.words.specs.Choice.{pick}
use Rattle.words.specs.Counting.{one}
use Rattle.words.proofs.ChoiceLaws.{pick_cases}
use Rattle.words.proofs.CountingLaws.{one_le}
use Rattle.steps.specs.Refusals.{carried_out}
use Rattle.steps.specs.declared.Step.{Step}
use Rattle.text.proofs.DigitLaws.{length-decimal, length-below, length-field}
use Rattle.text.specs.Phrases.{bytes, counted}
use Rattle.aic_record.specs.declared.Aic.{Aic}
use Rattle.aic.specs.Model.{step}
use Rattle.aic_runs.specs.Counted.{carries}
use Rattle.aic_bounds.specs.declared.Bound.{Bound}
use Rattle.aic_bounds.specs.Bounds.{idle, bound_after, bound_of}
use Rattle.aic_bounds.proofs.StepLaws.{step_cases}
use Rattle.lines.specs.Listing.{end_line, end_of}
use Rattle.trace_bounds.specs.Waits.{Wait, waited, only_if, ends, waits_from, waits_of}
use Rattle.trace_bounds.specs.Lines.{end_words, term_words, bound_words, wait_line, wait_lines, most_words, last_line, no_beginning, no_waits, no_source}
use Rattle.trace_bounds.proofs.LineLaws.{lines_append}
use Rattle.trace_bounds.proofs.WaitLaws.{Fit, fit_none, fit_next}

-- ---- a line

-- a number of at most d digits behind its words
length-counted : (d n : ℕ) (what : List ℕ) → 0 < d → n < 10 ^ d → length (counted what n) ≤ length what + d
unfolding counted
length-counted d n what p h = simp length-append (omega (arith, length-below 20 d n p h))

-- and any number
length_any : (n : ℕ) (what : List ℕ) → length (counted what n) ≤ length what + 20
unfolding counted
length_any n what = simp length-append (omega (arith, length-decimal 20 n))

end-most : (ended : ℕ) → ended ≤ 20000 → length (end_words ended) ≤ 21
unfolding end_words bytes
end-most ended h =
    pick_cases (λ (l : List ℕ). length l ≤ 21) (eqb ended 0) (λ _. omega arith)
    (λ _. omega (arith, length-counted 5 ended (bytes ", ended by step ") (omega arith) (omega (arith, h))))

-- what is observed after at most 20,000 steps
abbrev pub Small : Bound → Type 0
Small b =
    (b.pending ≤ 640000) × (b.edges ≤ 640000) × (b.commands ≤ 640000) × (b.turns ≤ 640000) × (b.closed ≤ 640000) × (b.remembered ≤ 1) × (b.wait ≤ 40000)

pub small_fit : (n : ℕ) (b : Bound) → n ≤ 20000 → Fit n b → b.remembered ≤ 1 → Small b
small_fit n b l ((p, e, c, t, h), w) r =
    (omega (arith, l, p), omega (arith, l, e), omega (arith, l, c), omega (arith, l, t), omega (arith, l, h), r, omega (arith, l, w))

term-most : (b : Bound) → Small b → length (term_words b) ≤ 112
unfolding term_words bytes
term-most b (p, e, c, t, h, r, w) =
    simp length-append
    (omega (
      arith,
      length-counted 6 b.pending (bytes " handlers: pending ") (omega arith) (omega (arith, p)),
      length-counted 6 b.edges (bytes ", edges ") (omega arith) (omega (arith, e)),
      length-counted 6 b.commands (bytes ", commands ") (omega arith) (omega (arith, c)),
      length-counted 6 b.turns (bytes ", turns ") (omega arith) (omega (arith, t)),
      length-counted 6 b.closed (bytes ", closed while active ") (omega arith) (omega (arith, h)),
      length-counted 1 b.remembered (bytes ", remembered ") (omega arith) (omega (arith, r)),
    ))

bound-most : (b : Bound) → Small b → length (bound_words b) ≤ 129
unfolding bound_words bound_of bytes
bound-most b s =
    pick_cases (λ (l : List ℕ). length l ≤ 129) (eqb b.broke 0)
    (λ _. simp length-append (omega (
      arith,
      term-most b s,
      length-counted 7 (b.pending + b.edges + b.commands + b.turns + b.closed + b.remembered) (bytes ", at most ") (omega arith)
          (omega (arith, s.0, s.1, s.2, s.3, s.4, s.5)),
    )))
    (λ _. omega (arith, length_any b.broke (bytes ", no bound: a mode or a forcing written by step ")))

line-most : (began ended : ℕ) (b : Bound) → began ≤ 20000 → ended ≤ 20000 → Small b → length (wait_line (waited began ended b)) ≤ 194
unfolding wait_line bytes
line-most began ended b g h s =
    simp length-append
    (omega (
      arith,
      length-counted 5 began (bytes "began by step ") (omega arith) (omega (arith, g)),
      end-most ended h,
      length-counted 5 (b.wait - 2) (bytes "; handlers started ") (omega arith) (omega (arith, s.6)),
      bound-most b s,
    ))

-- ---- all lines

only-most : (t : Bool) (w : Wait) → length (wait_line w) ≤ 194 → length (wait_lines (only_if t w)) ≤ 194 * one t
unfolding only_if wait_lines pick
only-most true w h = simp length-append (omega (arith, h))
only-most false w h = omega arith

-- a wait that ends leaves room for none before the next step
ends_few : (p q : ℕ) → 2 * one (ltb 1 p && ltb q 2) + one (ltb 1 q) ≤ 1 + one (ltb 1 p)
ends_few p q = go (dec_lt p 2) (dec_lt q 2)
  where
    go : Dec (p < 2) → Dec (q < 2) → 2 * one (ltb 1 p && ltb q 2) + one (ltb 1 q) ≤ 1 + one (ltb 1 p)
    go (yes l) (yes m) = rw (le-ltb 1 p (omega (arith, l)), le-ltb 1 q (omega (arith, m))) (omega arith)
    go (yes l) (no m) = rw (le-ltb 1 p (omega (arith, l)), lt-ltb 1 q (omega (arith, m))) (omega arith)
    go (no l) (yes m) = rw (lt-ltb 1 p (omega (arith, l)), le-ltb 1 q (omega (arith, m)), lt-ltb q 2 m) (omega arith)
    go (no l) (no m) = rw (lt-ltb 1 p (omega (arith, l)), lt-ltb 1 q (omega (arith, m)), le-ltb q 2 (omega (arith, m))) (omega arith)

remembered-one : (k n : ℕ) (b : Bound) (s : Aic) (x : Step) → b.remembered ≤ 1 → (bound_after k n b s x).remembered ≤ 1
remembered-one k n b s x h = step_cases k n b s x (λ r. r.remembered ≤ 1) (λ l. omega arith) (λ l z. one_le (carries k (step s x).aic)) (λ l o. h)

began_small : (t : Bool) (n began : ℕ) → began ≤ n → pick t (n + 1) began ≤ n + 1
unfolding pick
began_small true n began h = omega arith
began_small false n began h = omega (arith, h)

lines-from : (k n began : ℕ) (b : Bound) (s : Aic) (xs : List Step) → n + length xs ≤ 20000 → began ≤ n → Fit n b → b.remembered ≤ 1
    → 2 * length (wait_lines (waits_from k n began b s xs)) ≤ 194 * (length xs + 1 + one (ltb 1 b.wait))
unfolding waits_from
lines-from k n began b s [] h g f r =
    omega (
      arith,
      only-most (ltb 1 b.wait) (waited began 0 b) (line-most began 0 b (omega (arith, g, h)) (omega arith) (small_fit n b (omega (arith, h)) f r)),
      one_le (ltb 1 b.wait),
    )
lines-from k n began b s (x ∷ xs) h g f r =
    let c = bound_after k (n + 1) b s x in
    let rest = lines-from k (n + 1) (pick (ltb b.wait 2) (n + 1) began) c (step s x).aic xs (omega (arith, h)) (began_small (ltb b.wait 2) n began g)
    (fit_next k n b s x (omega (arith, h)) f) (remembered-one k (n + 1) b s x r) in
    let own = only-most (ends b c) (waited began (n + 1) b)
    (line-most began (n + 1) b (omega (arith, g, h)) (omega (arith, h)) (small_fit n b (omega (arith, h)) f r)) in
    rw (lines_append (only_if (ends b c) (waited began (n + 1) b)) (waits_from k (n + 1) (pick (ltb b.wait 2) (n + 1) began) c (step s x).aic xs))
    (simp length-append (omega (arith, rest, own, ends_few b.wait c.wait)))

pub lines-most : (k : ℕ) (s : Aic) (xs : List Step) → length xs ≤ 20000 → length (wait_lines (waits_of k s xs)) ≤ 1940097
unfolding waits_of
lines-most k s xs h = omega (arith, h, lines-from k 0 0 (idle 0) s xs (omega (arith, h)) (omega arith) fit_none (omega arith))

most-most : (begun unbounded most : ℕ) → length (most_words begun unbounded most) ≤ 67
unfolding most_words bytes
most-most begun unbounded most =
    pick_cases (λ (l : List ℕ). length l ≤ 67) (ltb unbounded begun)
    (λ _. omega (arith, length_any most (bytes "; handlers started in one with a bound at most ")))
    (λ _. omega arith)

pub last-most : (k begun unended unbounded most : ℕ) → length (last_line k begun unended unbounded most) ≤ 193
unfolding last_line bytes
last-most k begun unended unbounded most =
    simp length-append
    (omega (
      arith,
      length_any k (bytes "source "),
      length_any begun (bytes ": waits "),
      length_any unended (bytes ", not ended "),
      length_any unbounded (bytes ", without a bound "),
      most-most begun unbounded most,
    ))

pub end-line-most : (refusal offset : ℕ) → length (end_of refusal offset) ≤ 44
unfolding end_of end_line
end-line-most refusal offset =
    pick_cases (λ (l : List ℕ). length l ≤ 44) (eqb refusal carried_out) (λ e. omega arith)
    (λ e. simp length-append (omega (arith, length-field refusal, length-field offset)))

-- ---- no lines

pub beginning-most : (refusal offset : ℕ) → length (no_beginning refusal offset) ≤ 1940334
unfolding no_beginning bytes
beginning-most refusal offset = simp length-append (omega (arith, length-field refusal, length-field offset))

pub waits-most : length no_waits ≤ 1940334
unfolding no_waits bytes
waits-most = omega arith

pub source-most : length no_source ≤ 1940334
unfolding no_source bytes
source-most = omega arith
