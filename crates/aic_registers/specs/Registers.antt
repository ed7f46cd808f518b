-- What a read of each register answers, and what a write of each does, where nothing refuses it (01, AIC, Map; 003, table 27-2).
use Rattle.std.specs.Prelude.{ℕ, ◌+◌, ◌-◌, ◌*◌, ◌/◌, eqb, ltb}
use Rattle.words.specs.Choice.{pick}
use Rattle.words.specs.Counting.{one}
use Rattle.aic_record.specs.declared.Aic.{Aic}
use Rattle.aic_record.specs.Record.{with_spurious}
use Rattle.aic_record.specs.Mode.{mode_at}
use Rattle.aic_sources.specs.Pending.{pending_word}
use Rattle.aic_sources.specs.Fast.{fiq}
use Rattle.aic_sources.specs.Normal.{irq}
use Rattle.aic_registers.specs.declared.Answer.{Answer}
use Rattle.aic_registers.specs.Map.{svr, ivr, fvr, isr, ipr, imr, cisr, iecr, idcr, iccr, iscr, eoicr, spu, dcr, ffer, ffdr, ffsr}
use Rattle.aic_registers.specs.Handlers.{answered, vector_at, ivr_read, ivr_written, fvr_read, current, ended}
use Rattle.aic_registers.specs.Effects.{moded, vectored, enabled_by, disabled_by, set_by, cleared_by, debug_by, forced_by, unforced_by}

-- CISR: bit 0 the FIQ output, bit 1 the IRQ output (01, AIC; 003, 27.8.10)
unfoldable pub output_bits : Aic → ℕ
output_bits s = one (fiq s) + 2 * one (irq s)

-- the registers that a read leaves as they are; past the last one 0
unfoldable pub stored : Aic → ℕ → ℕ
stored s o =
    pick (ltb o svr) (mode_at s (o / 4))
    (pick (ltb o ivr) (vector_at s (o / 4 - 32))
    (pick (eqb o isr) (current s)
    (pick (eqb o ipr) (pending_word s)
    (pick (eqb o imr) s.enabled
    (pick (eqb o cisr) (output_bits s)
    (pick (eqb o spu) s.spurious
    (pick (eqb o dcr) s.debug
    (pick (eqb o ffsr) s.forced 0))))))))

-- a read: the two vectors change the record, the others do not
unfoldable pub read_at : Aic → ℕ → Answer
read_at s o = pick (eqb o ivr) (ivr_read s) (pick (eqb o fvr) (fvr_read s) (answered s (stored s o)))

-- a write of any value
unfoldable pub written_at : Aic → ℕ → ℕ → Aic
written_at s o v =
    pick (ltb o svr) (moded s (o / 4) v)
    (pick (ltb o ivr) (vectored s (o / 4 - 32) v)
    (pick (eqb o ivr) (ivr_written s)
    (pick (eqb o iecr) (enabled_by s v)
    (pick (eqb o idcr) (disabled_by s v)
    (pick (eqb o iccr) (cleared_by s v)
    (pick (eqb o iscr) (set_by s v)
    (pick (eqb o eoicr) (ended s)
    (pick (eqb o spu) (with_spurious s v)
    (pick (eqb o dcr) (debug_by s v)
    (pick (eqb o ffer) (forced_by s v)
    (pick (eqb o ffdr) (unforced_by s v) s)))))))))))
