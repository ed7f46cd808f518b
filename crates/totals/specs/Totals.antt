-- The figures of traces, added up source by source (02, 11/12): handlers started add up, the two largest numbers stay the largest.
use Rattle.std.specs.Prelude.{ℕ, ◌+◌, max, Bool, true, not, ◌&&◌, ltb, get_or, replicate}
use mathlib.Core.List.{List, [], ◌∷◌, zip_with}
use Rattle.words.specs.Choice.{pick}
use Rattle.words.specs.Counting.{any_below}
use Rattle.steps.specs.Refusals.{carried_out, overfull}
use Rattle.totals.specs.declared.Totals.{Totals}
use Rattle.totals.specs.declared.Added.{Added}

-- no trace is read
unfoldable pub zeros : Totals
zeros = record { started = replicate 32 0; waited = replicate 32 0; entries = replicate 32 0 }

-- ---- one trace more

-- the handlers started of some source would add up to more than 4,294,967,295 (02, 11/12)
unfoldable pub passes : List ℕ → List ℕ → Bool
passes a b = any_below 32 (λ i. ltb 4294967295 (get_or a i 0 + get_or b i 0))

-- both together, source by source: handlers started are added, of the other two figures the larger one stays (02, 11/12)
unfoldable pub together : Totals → Totals → Totals
together t f =
    record {
      started = zip_with ◌+◌ t.started f.started;
      waited = zip_with max t.waited f.waited;
      entries = zip_with max t.entries f.entries;
    }

-- 16 where a sum would be too large, with the totals as they were: nothing of this trace goes in (02, 11/12)
unfoldable pub added : Totals → Totals → Added
added t f =
    pick (passes t.started f.started)
    (record { refusal = overfull; totals = t })
    (record { refusal = carried_out; totals = together t f })

-- ---- many traces, in the order in which they are named

unfoldable pub added_all : Totals → List Totals → Totals
added_all t [] = t
added_all t (f ∷ fs) = added_all (added t f).totals fs

-- no trace is left out
unfoldable pub all_in : Totals → List Totals → Bool
all_in t [] = true
all_in t (f ∷ fs) = not (passes t.started f.started) && all_in (added t f).totals fs

-- the same traces in another order
pub data Reordered : List Totals → List Totals → Type 0 where
  none : Reordered [] []
  keep : (f : Totals) (xs ys : List Totals) → Reordered xs ys → Reordered (f ∷ xs) (f ∷ ys)
  swap : (f g : Totals) (xs : List Totals) → Reordered (f ∷ g ∷ xs) (g ∷ f ∷ xs)
  then : (xs ys zs : List Totals) → Reordered xs ys → Reordered ys zs → Reordered xs zs
