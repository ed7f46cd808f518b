-- The start: all registers 0 and all lines low (01, CIC, configuration).
use Rattle.std.specs.Prelude.{Bool, ◌&&◌, ℕ, replicate}
use Rattle.words.specs.Choice.{pick}
use Rattle.steps.specs.Refusals.{carried_out, misconfigured}
use Rattle.cic_record.specs.declared.Begun.{Begun}
use Rattle.cic_record.specs.declared.Cic.{Cic}
use Rattle.cic_record.specs.Record.{begun}
use Rattle.cic_record.specs.Sound.{within}

-- lines low and all registers 0, beside the configured numbers (01, CIC, configuration)
unfoldable pub fresh : ℕ → ℕ → ℕ → ℕ → Cic
fresh systems channels hosts revision =
    record {
      systems = systems;
      channels = channels;
      hosts = hosts;
      revision = revision;
      global = 0;
      lines = replicate 32 0;
      status = replicate 32 0;
      enable = replicate 32 0;
      channel = replicate 1024 0;
      host = replicate 256 0;
      allow = replicate 8 0;
    }

-- each number is within its limits
unfoldable pub configured : ℕ → ℕ → ℕ → ℕ → Bool
configured systems channels hosts revision = within 0 systems && (within 1 channels && (within 2 hosts && within 3 revision))

-- a number beyond its limit is refused by 10, with a record of zeros (01, CIC, configuration; 01, Numbers)
unfoldable pub start : ℕ → ℕ → ℕ → ℕ → Begun
start systems channels hosts revision =
    pick (configured systems channels hosts revision) (begun carried_out (fresh systems channels hosts revision)) (begun misconfigured (fresh 0 0 0 0))
