-- What the search for the first works on: the routes, four words of 32 inputs, the best so far and the lowest priority that may take its place.
use Rattle.std.specs.Prelude.{ℕ, ◌+◌, ◌-◌, ◌*◌, Bool, ◌&&◌, List, eqb, leb, get_or, Some, None}
use Rattle.words.specs.Choice.{pick}
use Rattle.words.specs.Counting.{one, upto}
use Rattle.words.specs.Word.{bit, word_of}
use Rattle.aintc_record.specs.declared.Aintc.{Aintc}
use Rattle.aintc_record.specs.Route.{priority_of, route_of}
use Rattle.aintc_registers.specs.declared.choice.Best.{Best}
use Rattle.aintc_registers.specs.Inputs.{open_word}

-- the inputs from `base` on whose output is `side`, as a word
unfoldable pub route_word : List ℕ → ℕ → ℕ → ℕ
route_word routes base side = word_of 32 (λ i. eqb (route_of (get_or routes (base + i) 0)) side)

-- input k is taken if it waits, asks for this side, and its priority number is at most the limit
unfoldable pub turned : Best → Bool → ℕ → ℕ → ℕ → Best
turned x waits k route side =
    pick (waits && eqb (route_of route) side && leb (priority_of route) x.limit) (record { number = Some k; limit = priority_of route }) x

-- 32 turns from input `base` on, of which the word w waits
unfoldable pub word_searched : ℕ → ℕ → List ℕ → ℕ → Best → Best
word_searched w base routes side x = upto (λ y i. turned y (bit w i) (base + i) (get_or routes (base + i) 0) side) x 32

-- four words; at first there is none, and the limit is the lowest priority that passes
unfoldable pub searched : Aintc → Bool → Best
searched s f =
    upto (λ x n. word_searched (open_word s n) (32 * n) s.routes (one f) x) (record { number = None; limit = s.threshold - 1 }) 4
