-- What a step touches, in words: the register or the line, the fields of a write, and which number is beyond its limit (docs/TEXT.md).
use Rattle.std.specs.Prelude.{ℕ, ◌-◌, Bool, true, false, ◌||◌, List, [], eqb, ltb}
use Rattle.words.specs.Choice.{pick}
use Rattle.text.specs.Phrases.{bytes, counted}
use Rattle.steps.specs.declared.Step.{Step}
use Rattle.steps.specs.declared.Step.TheVariants.{Read, Write, Line}
use Rattle.steps.specs.declared.Recorded.{Recorded}
use Rattle.cic_record.specs.declared.Cic.{Cic}
use Rattle.register_names.specs.declared.Sizes.{Sizes}
use Rattle.register_names.specs.Rows.{place_in}
use Rattle.register_names.specs.Maps.{aic_rows, core_rows, cic_rows, index_rows, aintc_rows}
use Rattle.kinds.specs.Kinds.{cic_kind, indexed_kind, by_kind}
use Rattle.machine.specs.declared.record.Machine.{Machine}
use Rattle.register_words.specs.Fields.{aic_fields, core_fields, cic_fields, indexed_fields, aintc_fields}

-- what the configuration of a CIC counts
abbrev pub sizes_of : Cic → Sizes
sizes_of c = record { systems = c.systems; channels = c.channels; hosts = c.hosts }

-- ---- the place

-- name and section of the register at an offset, by the maker's map; of a CIC as configured, with the prioritised registers where the choice is on
unfoldable pub register_words : Machine → Bool → ℕ → List ℕ
register_words m written o =
    by_kind m.kind
    (record {
      aic = place_in (aic_rows written) o;
      core = place_in core_rows o;
      cic = place_in (cic_rows written m.cic.systems m.cic.channels m.cic.hosts) o;
      aintc = place_in (aintc_rows written) o;
      indexed = pick (eqb m.held.choice 1)
          (place_in (index_rows written m.cic.systems m.cic.channels m.cic.hosts) o)
          (place_in (cic_rows written m.cic.systems m.cic.channels m.cic.hosts) o);
      none = [];
    })

-- a line that there is, by its number
unfoldable pub below : ℕ → List ℕ → ℕ → List ℕ
below n what k = pick (ltb k n) (counted what k) []

-- the inputs of a CoreInterrupt: 32 of the IRQ side, then 8 of the FIQ side (01, CoreInterrupt)
unfoldable pub input_words : ℕ → List ℕ
input_words k = pick (ltb k 32) (counted (bytes " IRQ input ") k) (pick (ltb k 40) (counted (bytes " FIQ input ") (k - 32)) [])

unfoldable pub line_words : Machine → ℕ → List ℕ
line_words m k =
    by_kind m.kind
    (record {
      aic = below 32 (bytes " source ") k;
      core = input_words k;
      cic = below m.cic.systems (bytes " system ") k;
      aintc = below 128 (bytes " input ") k;
      indexed = below m.cic.systems (bytes " system ") k;
      none = [];
    })

unfoldable pub place_at : Machine → Step → List ℕ
place_at m (Read o) = register_words m false o
place_at m (Write o v) = register_words m true o
place_at m (Line k l) = line_words m k

unfoldable pub place_words : Machine → Recorded → List ℕ
place_words m x = place_at m x.step

-- ---- fields

-- those of a value that is written to the register at an offset
unfoldable pub written_words : Machine → ℕ → ℕ → List ℕ
written_words m o v =
    by_kind m.kind
    (record {
      aic = aic_fields m.aic.external o v;
      core = core_fields m.core.fiq.count m.core.irq.count o v;
      cic = cic_fields m.cic.systems m.cic.channels m.cic.hosts o v;
      aintc = aintc_fields o v;
      indexed = indexed_fields m.cic.systems m.cic.channels m.cic.hosts o v;
      none = [];
    })

unfoldable pub fields_at : Machine → Step → List ℕ
fields_at m (Read o) = []
fields_at m (Write o v) = written_words m o v
fields_at m (Line k l) = []

-- of a write that is carried out; other steps have none
unfoldable pub field_words : Machine → Recorded → List ℕ
field_words m x = fields_at m x.step

-- ---- what is beyond its limit, where a step is refused by 6 (01, Numbers; 02, 2/12)

-- of a CIC by the register: the indices, then the maps (001, 2.2.4 to 2.2.9, 2.2.15 and 2.2.16)
unfoldable pub beyond_words : ℕ → List ℕ
beyond_words o =
    pick (ltb o 0x020) (bytes "a number is beyond its limit")
    (pick (ltb o 0x030) (bytes "no such system")
    (pick (ltb o 0x400) (bytes "no such host")
    (pick (ltb o 0x800) (bytes "a byte names no channel")
    (pick (ltb o 0x900) (bytes "a byte names no host")
    (bytes "a number is beyond its limit")))))

unfoldable pub access_words : ℕ → ℕ → ℕ → List ℕ
access_words kind privilege o =
    pick (ltb 1 privilege) (bytes "a privilege is 0 or 1")
    (pick (eqb kind cic_kind || eqb kind indexed_kind) (beyond_words o) (bytes "a number is beyond its limit"))

unfoldable pub level_words : ℕ → List ℕ
level_words l = pick (ltb 1 l) (bytes "a level is 0 or 1") (bytes "no such line")

unfoldable pub limit_at : ℕ → ℕ → Step → List ℕ
limit_at kind privilege (Read o) = access_words kind privilege o
limit_at kind privilege (Write o v) = access_words kind privilege o
limit_at kind privilege (Line k l) = level_words l

unfoldable pub limit_words : Machine → Recorded → List ℕ
limit_words m x = limit_at m.kind x.privilege x.step
