-- The waits of traces, added up source by source: numbers of waits add up, and of two bounds the larger one stays with its terms (02, 11/12 and 12/12).
use Rattle.std.specs.Prelude.{ℕ, ◌+◌, Bool, not, ◌&&◌, ◌||◌, eqb, ltb, get_or, replicate}
use mathlib.Core.List.{List, [], ◌∷◌, zip_with}
use Rattle.words.specs.Choice.{pick}
use Rattle.steps.specs.Refusals.{carried_out, overfull}
use Rattle.totals.specs.Totals as Sums
use Rattle.totals.specs.declared.waits.Waits.{Waits}
use Rattle.totals.specs.declared.waits.Added.{Added}
use Rattle.totals.specs.declared.waits.Terms.{Terms}

-- no trace is read
unfoldable pub no_waits : Waits
no_waits =
    record {
      begun = replicate 32 0;
      unended = replicate 32 0;
      unbounded = replicate 32 0;
      first = replicate 32 0;
      pending = replicate 32 0;
      edges = replicate 32 0;
      commands = replicate 32 0;
      turns = replicate 32 0;
      closed = replicate 32 0;
      remembered = replicate 32 0;
    }

-- the bound of source i, its six terms added up (02, 12/12): handlers
unfoldable pub bound_of : Waits → ℕ → ℕ
bound_of a i =
    get_or a.pending i 0 + get_or a.edges i 0 + get_or a.commands i 0 + get_or a.turns i 0 + get_or a.closed i 0 + get_or a.remembered i 0

-- the second bound of source i is the larger one; where both are alike, the first stays
unfoldable pub larger : Waits → Waits → ℕ → Bool
larger a b i = ltb (bound_of a i) (bound_of b i)

-- all waits of source i in the first have a bound, and one in the second has none
unfoldable pub newly : Waits → Waits → ℕ → Bool
newly a b i = eqb (get_or a.first i 0) 0 && not (eqb (get_or b.first i 0) 0)

-- source by source, from source i on: the second's number where a test holds, else the first's
unfoldable pub chosen_from : ℕ → (ℕ → Bool) → List ℕ → List ℕ → List ℕ
chosen_from i p [] b = []
chosen_from i p (x ∷ a) [] = []
chosen_from i p (x ∷ a) (y ∷ b) = pick (p i) y x ∷ chosen_from (i + 1) p a b

abbrev pub chosen : (ℕ → Bool) → List ℕ → List ℕ → List ℕ
chosen p a b = chosen_from 0 p a b

-- the six terms of the larger bound of each source
abbrev pub terms_of : Waits → Waits → Terms
terms_of a b =
    record {
      pending = chosen (larger a b) a.pending b.pending;
      edges = chosen (larger a b) a.edges b.edges;
      commands = chosen (larger a b) a.commands b.commands;
      turns = chosen (larger a b) a.turns b.turns;
      closed = chosen (larger a b) a.closed b.closed;
      remembered = chosen (larger a b) a.remembered b.remembered;
    }

-- a number of waits of some source would pass 4,294,967,295 (02, 11/12)
unfoldable pub passes : Waits → Waits → Bool
passes a b = (Sums.passes a.begun b.begun || Sums.passes a.unended b.unended) || Sums.passes a.unbounded b.unbounded

-- both together
unfoldable pub together : Waits → Waits → Waits
together a b =
    record {
      begun = zip_with ◌+◌ a.begun b.begun;
      unended = zip_with ◌+◌ a.unended b.unended;
      unbounded = zip_with ◌+◌ a.unbounded b.unbounded;
      first = chosen (newly a b) a.first b.first;
      pending = (terms_of a b).pending;
      edges = (terms_of a b).edges;
      commands = (terms_of a b).commands;
      turns = (terms_of a b).turns;
      closed = (terms_of a b).closed;
      remembered = (terms_of a b).remembered;
    }

-- 16 where a number would be too large, with the waits as they were (02, 11/12)
unfoldable pub added : Waits → Waits → Added
added a b = pick (passes a b) (record { refusal = overfull; waits = a }) (record { refusal = carried_out; waits = together a b })
