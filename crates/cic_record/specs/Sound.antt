-- What a configuration number may be, and which records are sound (01, CIC).
use Rattle.std.specs.Prelude.{Bool, ◌&&◌, List, ℕ, eqb, ltb, leb, get_or}
use Rattle.words.specs.Array.{clean_below}
use Rattle.words.specs.Choice.{pick}
use Rattle.words.specs.Counting.{all_below}
use Rattle.cic_record.specs.declared.Cic.{Cic}

-- lowest to highest
abbrev pub between : ℕ → ℕ → ℕ → Bool
between lowest highest n = leb lowest n && leb n highest

-- the nth configuration number, the first being number 0, may be `value`: 1 to 1,024 systems, 1 to 256 channels, 1 to 256 hosts, any revision; there are four (01, CIC, configuration)
unfoldable pub within : ℕ → ℕ → Bool
within nth value =
    pick (eqb nth 0) (between 1 1024 value)
    (pick (eqb nth 1) (between 1 256 value)
    (pick (eqb nth 2) (between 1 256 value)
    (eqb nth 3)))

-- the counts are in their ranges and global enable is 0 or 1 (01, CIC, a sound record)
unfoldable pub numbers_sound : Cic → Bool
numbers_sound c = within 0 c.systems && (within 1 c.channels && (within 2 c.hosts && leb c.global 1))

-- no line, status or enable bit beyond the systems is set, and no host enable beyond the hosts (01, CIC, a sound record)
unfoldable pub words_sound : Cic → Bool
words_sound c =
    clean_below 32 c.systems c.lines && (clean_below 32 c.systems c.status
    && (clean_below 32 c.systems c.enable && clean_below 8 c.hosts c.allow))

-- entry i of the map m is below the limit if it is one of the n entries in use, else 0
unfoldable pub entry_sound : ℕ → ℕ → List ℕ → ℕ → Bool
entry_sound n limit m i = pick (ltb i n) (ltb (get_or m i 0) limit) (eqb (get_or m i 0) 0)

-- each system has one of the channels and each channel one of the hosts; all bytes beyond the counts are 0 (01, CIC, a sound record)
unfoldable pub maps_sound : Cic → Bool
maps_sound c = all_below 1024 (entry_sound c.systems c.channels c.channel) && all_below 256 (entry_sound c.channels c.hosts c.host)

-- a sound record (01, CIC, a sound record)
unfoldable pub sound : Cic → Bool
sound c = numbers_sound c && (words_sound c && maps_sound c)
