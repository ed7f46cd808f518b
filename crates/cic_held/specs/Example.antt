-- One record on which the words looked at are counted: 96 systems in three words, two channels, the second mapped to host 1; only system interrupt 40 is set
-- and enabled, bit 8 of word 1, and it is of channel 1.
use Rattle.std.specs.Prelude.{List, ℕ, set, replicate}
use Rattle.cic_record.specs.declared.Cic.{Cic}

-- the words with that one bit
abbrev pub fortieth : List ℕ
fortieth = set (replicate 32 0) 1 256

unfoldable pub example : Cic
example =
    record {
      systems = 96;
      channels = 2;
      hosts = 2;
      revision = 0;
      global = 0;
      lines = replicate 32 0;
      status = fortieth;
      enable = fortieth;
      channel = set (replicate 1024 0) 40 1;
      host = set (replicate 256 0) 1 1;
      allow = replicate 8 0;
    }
