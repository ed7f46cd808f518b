-- What writes and line steps do to the record (01, AIC, Mode, Pending and Fast side; 003, 27.7.1, 27.7.4.5 and 27.7.7).
use Rattle.std.specs.Prelude.{ℕ, Bool, true, not, ◌&&◌, eqb, set}
use Rattle.words.specs.Choice.{pick}
use Rattle.words.specs.Word.{bit, kept, either, both, without, with_bit}
use Rattle.aic_record.specs.declared.Aic.{Aic}
use Rattle.aic_record.specs.Record.{nothing_seen, with_lines, with_enabled, with_memory, with_forced, with_debug, with_mode, with_vector, with_seen}
use Rattle.aic_record.specs.Mode.{type_of, kept_mode, kind, edge}
use Rattle.aic_sources.specs.Pending.{active_at, active, edge_word}
use Rattle.aic_registers.specs.Handlers.{forgotten}

-- a mode write keeps the priority and the type; one that alters the type clears the memory of its source (01, AIC, Mode)
unfoldable pub moded : Aic → ℕ → ℕ → Aic
moded s k v = with_mode (pick (eqb (kind s k) (type_of v)) s (forgotten s k)) (set s.mode k (kept_mode v))

-- a vector is stored whole (003, 27.8.4)
unfoldable pub vectored : Aic → ℕ → ℕ → Aic
vectored s k v = with_vector s (set s.vector k v)

-- each bit written as 1 enables, or disables, its source (003, 27.7.1.2)
unfoldable pub enabled_by : Aic → ℕ → Aic
enabled_by s v = with_enabled s (either s.enabled v)

unfoldable pub disabled_by : Aic → ℕ → Aic
disabled_by s v = with_enabled s (without s.enabled v)

-- a set, or a clear, command to each source whose bit is 1; it acts on edge sources only (01, AIC, Pending; 003, 27.7.1.3)
unfoldable pub set_by : Aic → ℕ → Aic
set_by s v = with_memory s (either s.memory (both v (edge_word s)))

unfoldable pub cleared_by : Aic → ℕ → Aic
cleared_by s v = with_memory s (without s.memory (both v (edge_word s)))

-- of debug control bits 1 and 0 are kept, the mask and protect mode; a write without bit 0 forgets what is remembered (02, 9/12; 003, 27.7.5)
unfoldable pub debug_by : Aic → ℕ → Aic
debug_by s v = pick (bit v 0) (with_debug s (kept 2 v)) (with_seen (with_debug s (kept 2 v)) nothing_seen)

-- each bit written as 1 forces its source, save source 0, or no longer forces it (01, AIC, Fast side; 003, 27.7.4.5)
unfoldable pub forced_by : Aic → ℕ → Aic
forced_by s v = with_forced s (either s.forced (without v 1))

unfoldable pub unforced_by : Aic → ℕ → Aic
unforced_by s v = with_forced s (without s.forced v)

-- a line that goes to a level turns source k from inactive to active
unfoldable pub turns : Aic → ℕ → Bool → Bool
turns s k high = not (active s k) && active_at s k high

-- a line step: an edge source that turns active remembers it, enabled or not (01, AIC, Pending)
unfoldable pub moved : Aic → ℕ → Bool → Aic
moved s k high =
    with_lines
    (pick (edge s k && turns s k high) (with_memory s (with_bit s.memory k true)) s)
    (with_bit s.lines k high)
