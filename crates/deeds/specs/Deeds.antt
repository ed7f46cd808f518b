-- What a step did, in words, by the machine before it and the one after it, and which outputs it changed (docs/TEXT.md).
use Rattle.std.specs.Prelude.{ℕ, ◌-◌, ◌%◌, Bool, false, not, ◌&&◌, List, [], ◌++◌, eqb, ltb}
use Rattle.words.specs.Choice.{pick}
use Rattle.words.specs.Counting.{count_below, lowest_below}
use Rattle.text.specs.Phrases.{bytes, counted}
use Rattle.steps.specs.declared.Step.{Step}
use Rattle.steps.specs.declared.Step.TheVariants.{Read, Write, Line}
use Rattle.steps.specs.declared.Recorded.{Recorded}
use Rattle.aic_record.specs.declared.Aic.{Aic}
use Rattle.aic_record.specs.declared.Seen.{Seen}
use Rattle.aic_record.specs.Last.{last_source, last_level}
use Rattle.cic_record.specs.declared.Cic.{Cic}
use Rattle.cic_record.specs.Kinds.{host_number}
use Rattle.cic_registers.specs.Hosts.{asserted}
use Rattle.aintc_record.specs.declared.Chosen.{Chosen}
use Rattle.kinds.specs.Kinds.{by_kind}
use Rattle.machine.specs.declared.record.Machine.{Machine}
use Rattle.machine.specs.Shown.{shown}

-- ---- the AIC: a source is told in five bits and a level in three, as IRQID and PRIOR hold them (003, 27.8.3 and 27.8.7)

-- the last entry that is open, of a step that opened it: a handler, at its level, or a mark, which is of source 0 (02, 3/12)
unfoldable pub opened_words : ℕ → ℕ → List ℕ
opened_words source level = pick (eqb source 0) (bytes "; opens a mark") (counted (bytes "; starts source ") source ++ counted (bytes " at level ") level)

-- the last entry before a step that closed it
unfoldable pub closed_words : ℕ → List ℕ
closed_words source = pick (eqb source 0) (bytes "; closes a mark") (counted (bytes "; closes source ") source)

-- a write of EOICR, of any value (003, 27.8.15)
unfoldable pub ends : Step → Bool
ends (Read o) = false
ends (Write o v) = eqb o 0x130
ends (Line k l) = false

-- one entry more or less is open, or a close found none
unfoldable pub entry_words : Aic → Step → Aic → List ℕ
entry_words s x t =
    pick (ltb s.depth t.depth) (opened_words (last_source t % 32) (last_level t % 8))
    (pick (ltb t.depth s.depth) (closed_words (last_source s % 32))
    (pick (ends x && eqb s.depth 0) (bytes "; nothing open") []))

-- the same is remembered, in every field (02, 9/12)
unfoldable pub same_seen : Seen → Seen → Bool
same_seen a b = eqb a.what b.what && eqb a.source b.source && eqb a.level b.level && eqb a.vector b.vector

unfoldable pub seen_words : Seen → Seen → List ℕ
seen_words a b =
    pick (same_seen a b) []
    (pick (eqb b.what 0) (bytes "; forgets")
    (pick (eqb b.what 1) (counted (bytes "; remembers source ") (b.source % 32)) (bytes "; remembers no source")))

unfoldable pub aic_deeds : Aic → Step → Aic → List ℕ
aic_deeds s x t = entry_words s x t ++ seen_words s.seen t.seen

-- ---- the CIC

-- host h is asserted in d and not in c
unfoldable pub gains : Cic → Cic → ℕ → Bool
gains c d h = asserted d (host_number h) && not (asserted c (host_number h))

unfoldable pub further_words : ℕ → List ℕ
further_words count = pick (eqb count 1) [] (counted (bytes " and ") (count - 1) ++ bytes " more")

-- the lowest of so many hosts, and how many more
unfoldable pub host_words : List ℕ → ℕ → ℕ → List ℕ
host_words what count lowest =
    pick (eqb count 0) [] (counted what lowest ++ further_words count)

unfoldable pub gain_words : List ℕ → Cic → Cic → List ℕ
gain_words what c d = host_words what (count_below 256 (gains c d)) (lowest_below 256 (gains c d))

-- hosts that became asserted, then hosts that are no longer (01, CIC, outputs)
unfoldable pub cic_deeds : Cic → Cic → List ℕ
cic_deeds c d = gain_words (bytes "; asserts host ") c d ++ gain_words (bytes "; ends host ") d c

-- ---- the AINTC: an input is told in seven bits, as ACTIVEIRQ and ACTIVEFIQ hold it (000, 4.5.4 and 4.5.5)

unfoldable pub chosen_words : List ℕ → Chosen → Chosen → List ℕ
chosen_words chooses a b = pick (a.active && eqb a.number b.number) [] (counted (bytes "; chooses input ") (b.number % 128) ++ chooses)

-- the input that is chosen for an output was not chosen before, or none is any more (000, 4.3.1.2)
unfoldable pub choice_words : List ℕ → List ℕ → Chosen → Chosen → List ℕ
choice_words chooses frees a b =
    pick b.active (chosen_words chooses a b)
    (pick a.active frees [])

unfoldable pub aintc_deeds : Chosen → Chosen → Chosen → Chosen → List ℕ
aintc_deeds irq fiq irq_after fiq_after =
    choice_words (bytes " for IRQ") (bytes "; frees IRQ") irq irq_after ++ choice_words (bytes " for FIQ") (bytes "; frees FIQ") fiq fiq_after

-- ---- of any kind

unfoldable pub deeds_at : Machine → Step → Machine → List ℕ
deeds_at m x a =
    by_kind m.kind
    (record {
      aic = aic_deeds m.aic x a.aic;
      core = [];
      cic = cic_deeds m.cic a.cic;
      aintc = aintc_deeds m.aintc.irq m.aintc.fiq a.aintc.irq a.aintc.fiq;
      indexed = cic_deeds m.cic a.cic;
      none = [];
    })

unfoldable pub deed_words : Machine → Recorded → Machine → List ℕ
deed_words m x a = deeds_at m x.step a

-- ---- outputs

-- an output that is 1 where it is active, before a step and after it
unfoldable pub turn_words : List ℕ → List ℕ → ℕ → ℕ → List ℕ
turn_words active inactive before after = pick (eqb before after) [] (pick (eqb after 1) active inactive)

-- IRQ, then FIQ, by the columns of a listing (01, House trace)
unfoldable pub side_words : Machine → Machine → List ℕ
side_words m a =
    turn_words (bytes "; IRQ active") (bytes "; IRQ inactive") (shown m).first (shown a).first
    ++ turn_words (bytes "; FIQ active") (bytes "; FIQ inactive") (shown m).second (shown a).second

-- a CIC tells its hosts instead
unfoldable pub output_words : Machine → Machine → List ℕ
output_words m a = by_kind m.kind (record { aic = side_words m a; core = side_words m a; cic = []; aintc = side_words m a; indexed = []; none = [] })
