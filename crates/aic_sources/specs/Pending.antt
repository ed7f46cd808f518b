-- When a source is pending (01, AIC, Mode and Pending; 003, 27.7.1 and 27.8.3).
use Rattle.std.specs.Prelude.{ℕ, Bool, not, ◌&&◌, ltb}
use Rattle.words.specs.Choice.{pick}
use Rattle.words.specs.Word.{bit, word_of}
use Rattle.aic_record.specs.declared.Aic.{Aic}
use Rattle.aic_record.specs.Mode.{kind, edge}

-- low is the active level of an external source of type 0 or 1, high that of any other (01, AIC, Mode; 003, 27.8.3)
unfoldable pub active_low : Aic → ℕ → Bool
active_low s k = bit s.external k && ltb (kind s k) 2

-- a line that is high, or low, is at the active level of source k
unfoldable pub active_at : Aic → ℕ → Bool → Bool
active_at s k high = pick (active_low s k) (not high) high

-- the line of source k is at its active level
unfoldable pub active : Aic → ℕ → Bool
active s k = active_at s k (bit s.lines k)

-- an edge source while its memory is set, a level source while its line is at the active level (01, AIC, Pending)
unfoldable pub pending : Aic → ℕ → Bool
pending s k = pick (edge s k) (bit s.memory k) (active s k)

-- pending and enabled
unfoldable pub asking : Aic → ℕ → Bool
asking s k = pending s k && bit s.enabled k

-- IPR: the word of the pending sources, enabled or not (003, 27.8.8)
unfoldable pub pending_word : Aic → ℕ
pending_word s = word_of 32 (pending s)

-- the word of the edge-triggered sources
unfoldable pub edge_word : Aic → ℕ
edge_word s = word_of 32 (edge s)
