-- What is promised of the words of a step: which map is asked, what is beyond its limit, and fields as the models keep them. Names and sections are
-- promised in `register_names`.
use Rattle.std.specs.Prelude.{ℕ, ◌<◌, ◌≤◌, ◌≡◌, Bool, ◌≢◌, ◌⊎◌}
use Rattle.text.specs.Phrases.{bytes}
use Rattle.steps.specs.declared.Recorded.{Recorded}
use Rattle.steps.specs.declared.Step.TheVariants.{Read, Write, Line}
use Rattle.register_names.specs.Rows.{place_in}
use Rattle.register_names.specs.Maps.{aic_rows, core_rows, cic_rows, index_rows, aintc_rows}
use Rattle.aic_record.specs.Mode.{kept_mode}
use Rattle.machine.specs.declared.record.Machine.{Machine}
use Rattle.register_words.specs.Fields.{mode_words, bit_words, map_words, route_words}
use Rattle.register_words.specs.Registers.{register_words, limit_words}

-- the step reads the offset, or writes it
abbrev pub Accesses : Recorded → ℕ → Type 0
Accesses x o = (x.step ≡ Read o) ⊎ ((v : ℕ) × (x.step ≡ Write o v))

pub record Promises : Type 0 where
  -- which map is asked goes by the kind; of a CIC as it is configured, with the prioritised registers where the choice is on
  pub aic_asked : (m : Machine) (written : Bool) (o : ℕ) → m.kind ≡ 0 → register_words m written o ≡ place_in (aic_rows written) o
  pub core_asked : (m : Machine) (written : Bool) (o : ℕ) → m.kind ≡ 1 → register_words m written o ≡ place_in core_rows o
  pub cic_asked : (m : Machine) (written : Bool) (o : ℕ) → m.kind ≡ 2
      → register_words m written o ≡ place_in (cic_rows written m.cic.systems m.cic.channels m.cic.hosts) o
  pub aintc_asked : (m : Machine) (written : Bool) (o : ℕ) → m.kind ≡ 3 → register_words m written o ≡ place_in (aintc_rows written) o
  pub indexed_asked : (m : Machine) (written : Bool) (o : ℕ) → m.kind ≡ 4 → m.held.choice ≡ 1
      → register_words m written o ≡ place_in (index_rows written m.cic.systems m.cic.channels m.cic.hosts) o
  pub choice_off : (m : Machine) (written : Bool) (o : ℕ) → m.kind ≡ 4 → m.held.choice ≢ 1
      → register_words m written o ≡ place_in (cic_rows written m.cic.systems m.cic.channels m.cic.hosts) o
  -- ---- what is beyond its limit, where a step is refused by 6 (01, Numbers; 02, 2/12)

  -- a line step: a level other than 0 and 1, else the line's number
  pub level_beyond : (m : Machine) (x : Recorded) (k l : ℕ) → x.step ≡ Line k l → 1 < l → limit_words m x ≡ bytes "a level is 0 or 1"
  pub line_beyond : (m : Machine) (x : Recorded) (k l : ℕ) → x.step ≡ Line k l → l ≤ 1 → limit_words m x ≡ bytes "no such line"
  -- an access: a privilege other than 0 and 1 before anything else
  pub privilege_beyond : (m : Machine) (x : Recorded) (o : ℕ) → Accesses x o → 1 < x.privilege → limit_words m x ≡ bytes "a privilege is 0 or 1"
  -- of a CIC, with prioritised indices or without, by the register: the indices of systems and of hosts, then the two maps
  pub system_beyond : (m : Machine) (x : Recorded) (o : ℕ) → Accesses x o → x.privilege ≤ 1 → (m.kind ≡ 2) ⊎ (m.kind ≡ 4) → 0x020 ≤ o → o ≤ 0x02C
      → limit_words m x ≡ bytes "no such system"
  pub host_beyond : (m : Machine) (x : Recorded) (o : ℕ) → Accesses x o → x.privilege ≤ 1 → (m.kind ≡ 2) ⊎ (m.kind ≡ 4) → 0x034 ≤ o → o ≤ 0x038
      → limit_words m x ≡ bytes "no such host"
  pub channel_beyond : (m : Machine) (x : Recorded) (o : ℕ) → Accesses x o → x.privilege ≤ 1 → (m.kind ≡ 2) ⊎ (m.kind ≡ 4) → 0x400 ≤ o → o ≤ 0x7FC
      → limit_words m x ≡ bytes "a byte names no channel"
  pub host_byte_beyond : (m : Machine) (x : Recorded) (o : ℕ) → Accesses x o → x.privilege ≤ 1 → (m.kind ≡ 2) ⊎ (m.kind ≡ 4) → 0x800 ≤ o → o ≤ 0x8FC
      → limit_words m x ≡ bytes "a byte names no host"
  -- ---- fields

  -- the words of a mode are those of the mode that is kept: bits that are dropped do not count (01, AIC, Mode)
  pub mode_kept : (external : Bool) (v : ℕ) → mode_words external v ≡ mode_words external (kept_mode v)
  -- bits as numbers: none, two, nine of which eight are told
  pub no_bit : bit_words (bytes "; sources") 0 0 ≡ bytes "; sources none"
  pub two_bits : bit_words (bytes "; sources") 0 0x22 ≡ bytes "; sources 1, 5"
  pub nine_bits : bit_words (bytes "; systems") 32 0x1FF ≡ bytes "; systems 32, 33, 34, 35, 36, 37, 38, 39 and 1 more"
  -- four bytes of a map, and the first two of six things
  pub four_bytes : map_words (bytes "; system ") (bytes " to channel ") 8 4 0x00000202 ≡ bytes "; system 4 to channel 2, 5 to 2, 6 to 0, 7 to 0"
  pub two_bytes : map_words (bytes "; channel ") (bytes " to host ") 6 4 0x00000202 ≡ bytes "; channel 4 to host 2, 5 to 2"
  -- a route: bits 8:2 and 0 (000, figure 4-25)
  pub fast_route : route_words 0x15 ≡ bytes "; to FIQ, priority 5"
  pub plain_route : route_words 0x14 ≡ bytes "; to IRQ, priority 5"
