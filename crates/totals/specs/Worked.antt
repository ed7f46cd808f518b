-- Totals at the figure at which they stop (02, 11/12).
use Rattle.std.specs.Prelude.{ℕ, set, replicate}
use Rattle.totals.specs.declared.Totals.{Totals}

-- n handlers of source 31 were started, and nothing else came about
unfoldable pub only : ℕ → Totals
only n = record { started = set (replicate 32 0) 31 n; waited = replicate 32 0; entries = replicate 32 0 }
