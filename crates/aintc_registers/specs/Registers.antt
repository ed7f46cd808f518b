-- What a step answers, and what a read of each register answers where nothing refuses it (000, 4.5).
use Rattle.std.specs.Prelude.{ℕ, ◌+◌, ◌*◌, Bool, true, false, eqb, ltb, get_or}
use Rattle.words.specs.Choice.{pick}
use Rattle.words.specs.Counting.{one}
use Rattle.steps.specs.Refusals.{carried_out}
use Rattle.aintc_record.specs.declared.Aintc.{Aintc}
use Rattle.aintc_record.specs.Route.{route_value, route_at}
use Rattle.aintc_registers.specs.Inputs.{pending_word}
use Rattle.aintc_registers.specs.declared.Answer.{Answer}
use Rattle.aintc_registers.specs.Map.{revision, sysconfig, sysstatus, sir_irq, sir_fiq, protection, idle, irq_priority, fiq_priority, threshold, itr, mir, isr_set, pending_irq, pending_fiq, ilr, row_of, bank_of, input_of}

-- a step that is carried out answers a value and the record after it (01, Numbers)
abbrev pub answered : Aintc → ℕ → Answer
answered s v = record { refusal = carried_out; value = v; aintc = s }

-- a step that is refused answers its number, the value 0 and the same record (01, Numbers)
abbrev pub refused : Aintc → ℕ → Answer
refused s n = record { refusal = n; value = 0; aintc = s }

-- with none chosen: the flag in bits 31:7, and 0 (000, 4.4.5 and figures 4-9, 4-10, 4-14 and 4-15)
abbrev pub spurious : ℕ
spurious = 0xFFFFFF80

-- with one chosen its number, or the priority that it had when it was chosen, and no flag (000, 4.3.1.2.3 and 4.4.5)
unfoldable pub shown : Bool → ℕ → ℕ
shown active n = pick active n spurious

-- TURBO in bit 1, FUNCIDLE in bit 0 (000, figure 4-13)
unfoldable pub idle_bits : Aintc → ℕ
idle_bits s = 2 * one s.turbo + one s.funcidle

-- the registers that stand alone; SYSCONFIG shows AUTOIDLE, and a reset is always complete (000, figures 4-6 to 4-16)
unfoldable pub single_read : Aintc → ℕ → ℕ
single_read s o =
    pick (eqb o revision) s.revision
    (pick (eqb o sysconfig) (one s.autoidle)
    (pick (eqb o sysstatus) 1
    (pick (eqb o sir_irq) (shown s.irq.active s.irq.number)
    (pick (eqb o sir_fiq) (shown s.fiq.active s.fiq.number)
    (pick (eqb o protection) (one s.guarded)
    (pick (eqb o idle) (idle_bits s)
    (pick (eqb o irq_priority) (shown s.irq.active s.irq.priority)
    (pick (eqb o fiq_priority) (shown s.fiq.active s.fiq.priority)
    (pick (eqb o threshold) s.threshold 0)))))))))

-- the registers of bank n, by their row: ITR shows the lines alone, ISR_SET the soft interrupts, PENDING what is pending, whatever the
-- threshold is (000, figures 4-17 to 4-24)
unfoldable pub bank_read : Aintc → ℕ → ℕ → ℕ
bank_read s n r =
    pick (eqb r itr) (get_or s.lines n 0)
    (pick (eqb r mir) (get_or s.masks n 0)
    (pick (eqb r isr_set) (get_or s.soft n 0)
    (pick (eqb r pending_irq) (pending_word s false n)
    (pick (eqb r pending_fiq) (pending_word s true n) 0))))

-- the register at an offset; ILR shows the priority and the output of its input (000, figure 4-25)
unfoldable pub read_at : Aintc → ℕ → ℕ
read_at s o =
    pick (ltb o itr) (single_read s o)
    (pick (ltb o ilr) (bank_read s (bank_of o) (row_of o))
    (route_value (route_at s (input_of o))))
