-- The record with one of its parts put anew, and the record after reset.
use Rattle.std.specs.Prelude.{ℕ, List, replicate}
use Rattle.aic_record.specs.declared.Aic.{Aic}
use Rattle.aic_record.specs.declared.Seen.{Seen}

-- nothing is remembered (02, 9/12)
abbrev pub nothing_seen : Seen
nothing_seen = record { what = 0; source = 0; level = 0; vector = 0 }

-- the lines at other levels
abbrev pub with_lines : Aic → ℕ → Aic
with_lines s w = record { external = s.external; lines = w; enabled = s.enabled; memory = s.memory; forced = s.forced; spurious = s.spurious; debug = s.debug; mode = s.mode; vector = s.vector; source = s.source; level = s.level; depth = s.depth; seen = s.seen }

-- other sources enabled
abbrev pub with_enabled : Aic → ℕ → Aic
with_enabled s w = record { external = s.external; lines = s.lines; enabled = w; memory = s.memory; forced = s.forced; spurious = s.spurious; debug = s.debug; mode = s.mode; vector = s.vector; source = s.source; level = s.level; depth = s.depth; seen = s.seen }

-- other edges remembered
abbrev pub with_memory : Aic → ℕ → Aic
with_memory s w = record { external = s.external; lines = s.lines; enabled = s.enabled; memory = w; forced = s.forced; spurious = s.spurious; debug = s.debug; mode = s.mode; vector = s.vector; source = s.source; level = s.level; depth = s.depth; seen = s.seen }

-- other sources forced to the fast side
abbrev pub with_forced : Aic → ℕ → Aic
with_forced s w = record { external = s.external; lines = s.lines; enabled = s.enabled; memory = s.memory; forced = w; spurious = s.spurious; debug = s.debug; mode = s.mode; vector = s.vector; source = s.source; level = s.level; depth = s.depth; seen = s.seen }

-- another spurious vector
abbrev pub with_spurious : Aic → ℕ → Aic
with_spurious s v = record { external = s.external; lines = s.lines; enabled = s.enabled; memory = s.memory; forced = s.forced; spurious = v; debug = s.debug; mode = s.mode; vector = s.vector; source = s.source; level = s.level; depth = s.depth; seen = s.seen }

-- another debug control: bit 1 masks the outputs, bit 0 is protect mode (02, 9/12)
abbrev pub with_debug : Aic → ℕ → Aic
with_debug s v = record { external = s.external; lines = s.lines; enabled = s.enabled; memory = s.memory; forced = s.forced; spurious = s.spurious; debug = v; mode = s.mode; vector = s.vector; source = s.source; level = s.level; depth = s.depth; seen = s.seen }

-- other modes
abbrev pub with_mode : Aic → List ℕ → Aic
with_mode s ms = record { external = s.external; lines = s.lines; enabled = s.enabled; memory = s.memory; forced = s.forced; spurious = s.spurious; debug = s.debug; mode = ms; vector = s.vector; source = s.source; level = s.level; depth = s.depth; seen = s.seen }

-- other vectors
abbrev pub with_vector : Aic → List ℕ → Aic
with_vector s vs = record { external = s.external; lines = s.lines; enabled = s.enabled; memory = s.memory; forced = s.forced; spurious = s.spurious; debug = s.debug; mode = s.mode; vector = vs; source = s.source; level = s.level; depth = s.depth; seen = s.seen }

-- other open entries, handlers and marks: their sources, their levels and how many there are
abbrev pub with_handlers : Aic → List ℕ → List ℕ → ℕ → Aic
with_handlers s ks ls n = record { external = s.external; lines = s.lines; enabled = s.enabled; memory = s.memory; forced = s.forced; spurious = s.spurious; debug = s.debug; mode = s.mode; vector = s.vector; source = ks; level = ls; depth = n; seen = s.seen }

-- something else remembered (02, 9/12)
abbrev pub with_seen : Aic → Seen → Aic
with_seen s n = record { external = s.external; lines = s.lines; enabled = s.enabled; memory = s.memory; forced = s.forced; spurious = s.spurious; debug = s.debug; mode = s.mode; vector = s.vector; source = s.source; level = s.level; depth = s.depth; seen = n }

-- all registers 0, no edge remembered, no entry open, nothing remembered; the lines at their first levels (01, AIC, Configuration)
unfoldable pub reset : ℕ → ℕ → Aic
reset external lines = record { external = external; lines = lines; enabled = 0; memory = 0; forced = 0; spurious = 0; debug = 0; mode = replicate 32 0; vector = replicate 32 0; source = replicate 8 0; level = replicate 8 0; depth = 0; seen = nothing_seen }
