-- Traces that are put to totals: none, one, and more after others.
use Prim.Native.Nat.{ℕ, ◌+◌, ◌≤◌}
use mathlib.Core.Path.{◌≡◌, sym, ap, ◌∙◌}
use mathlib.Core.Bool.{Bool, false, not}
use mathlib.Core.List.{List, [], ◌∷◌, ◌++◌, map}
use native.Mathlib.Omega.{arith}
use lib.ListN.{length-append}
use Rattle.words.specs.Counting.{one}
use Rattle.totals.specs.declared.Totals.{Totals}
use Rattle.totals.specs.Totals.{added}
use Rattle.totals.proofs.Promises as Sums
use Rattle.report.specs.Put.{figures_of, put_all, Put}

pub put-none_yet : (t : Totals) → put_all t [] ≡ t
unfolding put_all
put-none_yet t = (Sums.kept).none_yet t

pub put-one-more : (t : Totals) (s : List ℕ) (traces : List (List ℕ)) → put_all t (s ∷ traces) ≡ put_all (added t (figures_of s)).totals traces
unfolding put_all
put-one-more t s traces = (Sums.kept).one_more t (figures_of s) (map figures_of traces)

put_both : (t : Totals) (xs ys : List (List ℕ)) → put_all (put_all t xs) ys ≡ put_all t (xs ++ ys)
put_both t [] ys = ap (λ (u : Totals). put_all u ys) (put-none_yet t)
put_both t (s ∷ xs) ys =
    ap (λ (u : Totals). put_all u ys) (put-one-more t s xs) ∙ put_both (added t (figures_of s)).totals xs ys ∙ sym (put-one-more t s (xs ++ ys))

-- ---- what a function's totals are

pub put-none : (t : Totals) (n : ℕ) (u : Totals) → u ≡ t → Put t n u
put-none t n u e = record { traces = []; most = omega arith; are = e ∙ sym (put-none_yet t) }

pub put_one : (t u : Totals) (s : List ℕ) → u ≡ (added t (figures_of s)).totals → Put t 1 u
put_one t u s e = record { traces = s ∷ []; most = omega arith; are = e ∙ sym (put-one-more t s [] ∙ put-none_yet (added t (figures_of s)).totals) }

-- a name that is passed over has no trace
pub put-unless : {t u : Totals} (skipping : Bool) → skipping ≡ false → Put t 1 u → Put t (one (not skipping)) u
put-unless skipping e p = rw e p

pub put-within : {t u : Totals} {n : ℕ} (m : ℕ) → n ≤ m → Put t n u → Put t m u
put-within m l p = record { traces = p.traces; most = omega (arith, p.most); are = p.are }

pub put_then : {t u v : Totals} {n m : ℕ} → Put t n u → Put u m v → Put t (n + m) v
put_then {t} p q =
    record {
      traces = p.traces ++ q.traces;
      most = omega (arith, length-append p.traces q.traces, p.most, q.most);
      are = q.are ∙ ap (λ (u : Totals). put_all u q.traces) p.are ∙ put_both t p.traces q.traces;
    }
