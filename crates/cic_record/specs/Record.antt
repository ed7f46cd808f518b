-- The record with one part of it put anew, and the answers that hold it: each literal stands here once.
use Rattle.std.specs.Prelude.{List, ℕ}
use Rattle.cic_record.specs.declared.Answer.{Answer}
use Rattle.cic_record.specs.declared.Begun.{Begun}
use Rattle.cic_record.specs.declared.Cic.{Cic}
use Rattle.steps.specs.Refusals.{carried_out}

-- the record with the global enable x
abbrev pub with_global : Cic → ℕ → Cic
with_global c x = record { systems = c.systems; channels = c.channels; hosts = c.hosts; revision = c.revision; global = x; lines = c.lines; status = c.status; enable = c.enable; channel = c.channel; host = c.host; allow = c.allow }

-- the record with the line levels x
abbrev pub with_lines : Cic → List ℕ → Cic
with_lines c x = record { systems = c.systems; channels = c.channels; hosts = c.hosts; revision = c.revision; global = c.global; lines = x; status = c.status; enable = c.enable; channel = c.channel; host = c.host; allow = c.allow }

-- the record with the status bits x
abbrev pub with_status : Cic → List ℕ → Cic
with_status c x = record { systems = c.systems; channels = c.channels; hosts = c.hosts; revision = c.revision; global = c.global; lines = c.lines; status = x; enable = c.enable; channel = c.channel; host = c.host; allow = c.allow }

-- the record with the system enables x
abbrev pub with_enable : Cic → List ℕ → Cic
with_enable c x = record { systems = c.systems; channels = c.channels; hosts = c.hosts; revision = c.revision; global = c.global; lines = c.lines; status = c.status; enable = x; channel = c.channel; host = c.host; allow = c.allow }

-- the record with the channel map x
abbrev pub with_channel : Cic → List ℕ → Cic
with_channel c x = record { systems = c.systems; channels = c.channels; hosts = c.hosts; revision = c.revision; global = c.global; lines = c.lines; status = c.status; enable = c.enable; channel = x; host = c.host; allow = c.allow }

-- the record with the host map x
abbrev pub with_host : Cic → List ℕ → Cic
with_host c x = record { systems = c.systems; channels = c.channels; hosts = c.hosts; revision = c.revision; global = c.global; lines = c.lines; status = c.status; enable = c.enable; channel = c.channel; host = x; allow = c.allow }

-- the record with the host enables x
abbrev pub with_allow : Cic → List ℕ → Cic
with_allow c x = record { systems = c.systems; channels = c.channels; hosts = c.hosts; revision = c.revision; global = c.global; lines = c.lines; status = c.status; enable = c.enable; channel = c.channel; host = c.host; allow = x }

-- what a start answers
abbrev pub begun : ℕ → Cic → Begun
begun n c = record { refusal = n; cic = c }

-- a step that is refused: its number, the value 0 and the same record (01, Numbers)
abbrev pub refused : Cic → ℕ → Answer
refused c n = record { refusal = n; value = 0; cic = c }

-- a step that is carried out, with its value and the record after it
abbrev pub answered : Cic → ℕ → Answer
answered c v = record { refusal = carried_out; value = v; cic = c }
