-- The totals after traces, put to them one after the other as the report's program does (02, 11/12).
use Rattle.std.specs.Prelude.{ℕ, ◌≤◌, ◌≡◌, List, map, length}
use Rattle.totals.specs.declared.Totals.{Totals}
use Rattle.totals.specs.Totals.{added_all}
use Rattle.tally.specs.Tally.{tally_of}

-- the figures of a trace of which at most 20,000 steps are played, as of a listing
abbrev pub figures_of : List ℕ → Totals
figures_of s = (tally_of s 20000).figures

-- the totals with those of traces put to them, the first trace first
unfoldable pub put_all : Totals → List (List ℕ) → Totals
put_all t traces = added_all t (map figures_of traces)

-- totals u are t with the figures of some traces put to them, at most n of them: which ones no contract can say, since none says what is read of files
pub record Put (t : Totals) (n : ℕ) (u : Totals) : Type 0 where
  pub traces : List (List ℕ)
  pub most : length traces ≤ n
  pub are : u ≡ put_all t traces
